-- The limit of polls, as a text: decimal digits.
use Rattle.std.specs.Prelude.{Bool, true, cond, ◌&&◌, List, [], ◌∷◌, ℕ, ◌+◌, ◌-◌, ◌*◌, leb}
use Rattle.host.specs.Host.{MOST}

unfoldable pub all_digits : List ℕ → Bool
all_digits [] = true
all_digits (c ∷ s) = (leb 48 c && leb c 57) && all_digits s

-- the number of digits, behind those whose number is v
unfoldable pub number : ℕ → List ℕ → ℕ
number v [] = v
number v (c ∷ s) = number (v * 10 + (c - 48)) s

unfoldable pub limit_from : ℕ → List ℕ → ℕ
limit_from v s = cond (all_digits s && leb (number v s) MOST) (number v s) 0

-- 0 is no limit: it stands for every text that is none
abbrev pub read_limit : List ℕ → ℕ
read_limit s = limit_from 0 s
