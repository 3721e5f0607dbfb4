-- A password as it is stored.
use mathlib.Core.Path.{◌≡◌, sym, ap, ap₂, ◌∙◌}
use mathlib.Core.List.{List, ◌++◌}
use Prim.Native.Nat.{ℕ, ◌-◌, ◌≤◌}
use native.Mathlib.Nat.{add-sub_of_le}
use native.Mathlib.Omega.{arith}
use lib.ListN.{length, take, drop, replicate, length-take, length-replicate, replicate-append-replicate}
use lib.Seq.{take_all, drop_at}
use Rattle.card.specs.declared.Password.{Password}
use Rattle.card.specs.Settings.{PASSWORD}
use Rattle.card.specs.Lock.{password_of}

drop-zeros : (k n : ℕ) → k ≤ n → drop k (replicate {A = ℕ} n 0) ≡ replicate (n - k) 0
drop-zeros k n h =
    ap (λ (m : ℕ). drop k (replicate {A = ℕ} m 0)) (sym (add-sub_of_le h))
    ∙ ap (λ (l : List ℕ). drop k l) (sym (replicate-append-replicate k (n - k) 0))
    ∙ drop_at (replicate k 0) (replicate (n - k) 0) k (length-replicate k 0)

-- bytes copied to the front of zeros
in_front : (s bytes : List ℕ) → length s ≤ PASSWORD → bytes ≡ take PASSWORD s ++ drop (length s) (replicate PASSWORD 0)
    → record { bytes = bytes; length = length s } ≡ password_of s
in_front s bytes h e =
    ap {B = Password} (λ (b : List ℕ). record { bytes = b; length = length s })
    (e ∙ ap₂ (λ (a z : List ℕ). a ++ z) (take_all PASSWORD s h) (drop-zeros (length s) PASSWORD h))

pub first_in_front : (s f bytes : List ℕ) → f ≡ take PASSWORD s → bytes ≡ take PASSWORD f ++ drop (length f) (replicate PASSWORD 0)
    → record { bytes = bytes; length = length f } ≡ password_of (take PASSWORD s)
first_in_front s f bytes k e = in_front f bytes (omega (arith, ap length k, length-take PASSWORD s)) e ∙ ap password_of k

-- of 16 bytes and less all are stored
pub whole : {x : Password} (s t : List ℕ) → x ≡ password_of (take PASSWORD s) → s ≡ t → length t ≤ PASSWORD → x ≡ password_of t
whole s t e k h = e ∙ ap (λ (l : List ℕ). password_of (take PASSWORD l)) k ∙ ap password_of (take_all PASSWORD t h)
