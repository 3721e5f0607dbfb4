-- Words of so many bits, as numbers.
use Rattle.std.specs.Prelude.{ℕ, ◌+◌, ◌*◌, ◌%◌, ◌^◌}

-- `width` bits of `low` behind those of `high`, as many as a word of `size` bits holds
unfoldable pub joined : ℕ → ℕ → ℕ → ℕ → ℕ
joined size high width low = (high * 2 ^ width + low % 2 ^ width) % 2 ^ size
