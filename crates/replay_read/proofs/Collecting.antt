-- A buffer keeps the first bytes of a line.
use mathlib.Core.Path.{◌≡◌, refl, sym, ap, ◌∙◌}
use mathlib.Core.List.{List, [], ◌∷◌, ◌++◌, append-nil, append_assoc}
use Prim.Native.Nat.{ℕ, zero, suc, ◌+◌, ◌≤◌, ◌<◌}
use native.Mathlib.Numerals.{add-one}
use native.Mathlib.Omega.{arith}
use borrow.Author.Tests.{ltb-true, ltb-false}
use lib.Dec.{ltb}
use lib.ListN.{length, take, set, length-append, length-take, length-set}
use lib.Seq.{take_all, take-suc-set, take-append-le}
use Rattle.card.proofs.Choices.{cond_elim}
use Rattle.replay_read.specs.Read.{LONGEST, read_line}
use Rattle.replay_read.specs.Keep.{Collected, collected, keep_byte, keep_all, kept}
use Rattle.replay_read.proofs.Longest.{front_enough}

-- ---- one byte

stored : (buffer : List ℕ) (count byte : ℕ) → count < length buffer
    → take (count + 1) (set buffer count byte) ≡ take (length buffer) (take count buffer ++ (byte ∷ []))
stored buffer count byte h =
    let short = length-append (take count buffer) (byte ∷ []) in
    ap (λ (n : ℕ). take n (set buffer count byte)) (add-one count)
    ∙ take-suc-set buffer count byte h
    ∙ sym (take_all (length buffer) (take count buffer ++ (byte ∷ [])) (omega (arith, short, length-take count buffer)))

full : (buffer : List ℕ) (count byte : ℕ) → count ≤ length buffer → length buffer ≤ count
    → take count buffer ≡ take (length buffer) (take count buffer ++ (byte ∷ []))
full buffer count byte h k =
    sym (take-append-le (length buffer) (take count buffer) (byte ∷ []) (omega (arith, length-take count buffer))
    ∙ take_all (length buffer) (take count buffer) (omega (arith, length-take count buffer)))

pub one_kept : (buffer : List ℕ) (count byte : ℕ) → count ≤ length buffer
    → kept (keep_byte (collected buffer count) byte) ≡ take (length buffer) (take count buffer ++ (byte ∷ []))
unfolding keep_byte
one_kept buffer count byte h =
    cond_elim (λ (c : Collected). kept c ≡ take (length buffer) (take count buffer ++ (byte ∷ []))) (ltb count (length buffer))
    (λ e. stored buffer count byte (ltb-true _ _ e))
    (λ e. full buffer count byte h (ltb-false _ _ e))

-- ---- all of them

same_size : (c : Collected) (byte : ℕ) → length (keep_byte c byte).buffer ≡ length c.buffer
unfolding keep_byte
same_size c byte =
    cond_elim (λ (d : Collected). length d.buffer ≡ length c.buffer) (ltb c.count (length c.buffer))
    (λ e. length-set c.buffer c.count byte)
    (λ e. refl)

within : (c : Collected) (byte : ℕ) → c.count ≤ length c.buffer → (keep_byte c byte).count ≤ length c.buffer
unfolding keep_byte
within c byte h =
    cond_elim (λ (d : Collected). d.count ≤ length c.buffer) (ltb c.count (length c.buffer))
    (λ e. omega (arith, ltb-true c.count (length c.buffer) e))
    (λ e. h)

front-twice : (n : ℕ) (a s : List ℕ) → take n (take n a ++ s) ≡ take n (a ++ s)
front-twice zero a s = refl
front-twice (suc n) [] s = refl
front-twice (suc n) (x ∷ a) s = ap (λ (l : List ℕ). x ∷ l) (front-twice n a s)

more : (c : Collected) (s : List ℕ) → c.count ≤ length c.buffer → kept (keep_all c s) ≡ take (length c.buffer) (kept c ++ s)
unfolding keep_all
more c [] h =
    sym (ap (take (length c.buffer)) (append-nil (kept c)) ∙ take_all (length c.buffer) (kept c) (omega (arith, length-take c.count c.buffer)))
more c (b ∷ s) h =
    let n : ℕ = length c.buffer in
    let d : Collected = keep_byte c b in
    more d s (omega (arith, same_size c b, within c b h))
    ∙ ap (λ (k : ℕ). take k (kept d ++ s)) (same_size c b)
    ∙ ap (λ (l : List ℕ). take n (l ++ s)) (one_kept c.buffer c.count b h)
    ∙ front-twice n (kept c ++ (b ∷ [])) s
    ∙ ap (take n) (append_assoc (kept c) (b ∷ []) s)

pub kept-size : (c : Collected) (s : List ℕ) → length (keep_all c s).buffer ≡ length c.buffer
unfolding keep_all
kept-size c [] = refl
kept-size c (b ∷ s) = kept-size (keep_byte c b) s ∙ same_size c b

pub all-kept : (buffer s : List ℕ) → kept (keep_all (collected buffer 0) s) ≡ take (length buffer) s
all-kept buffer s = more (collected buffer 0) s (omega arith)

pub kept_read : (buffer s : List ℕ) → length buffer ≡ LONGEST + 1 → read_line (kept (keep_all (collected buffer 0) s)) ≡ read_line s
kept_read buffer s h = ap read_line (all-kept buffer s ∙ ap (λ (n : ℕ). take n s) h) ∙ sym (front_enough s)
