-- Six bytes with one high bit and the check hidden: what is left does not depend on that bit and that check.
use mathlib.Core.Path.{◌≡◌, sym, ap, ap₂, ◌∙◌}
use mathlib.Core.Bool.{Bool, true}
use mathlib.Core.List.{List, [], ◌∷◌, ◌++◌, append_assoc}
use Prim.Native.Nat.{ℕ, suc, ◌+◌, ◌*◌, ◌%◌, ◌^◌, ◌<◌, ◌≤◌}
use native.Mathlib.Omega.{arith}
use lib.Arith.{digits_mod}
use lib.ListN.{length, get_or, set, take, drop, length-append}
use lib.Seq.{set_at, get_or_at, take_all, length-take-le}
use Rattle.crc.specs.Bits.{digit, number, bytes}
use Rattle.crc.proofs.Bits.{number_lt, number_append, bytes_append, length-bytes}
use Rattle.card.specs.History.{masked}

masked_at : (n : ℕ) (p q rest : List ℕ) (v c : ℕ) → length p ≡ n → n + length q ≡ 4
    → masked n (p ++ (v ∷ (q ++ (c ∷ rest)))) ≡ p ++ ((v % 128) ∷ (q ++ ((c % 2) ∷ rest)))
masked_at n p q rest v c hp hq =
    ap₂ (λ (s : List ℕ) (x : ℕ). set s 5 (x % 2)) front last
    ∙ set_at (p ++ ((v % 128) ∷ q)) c rest (c % 2) 5 five
    ∙ append_assoc p ((v % 128) ∷ q) ((c % 2) ∷ rest)
  where
    s₀ : List ℕ
    s₀ = p ++ (v ∷ (q ++ (c ∷ rest)))

    five : length (p ++ ((v % 128) ∷ q)) ≡ 5
    five = length-append p ((v % 128) ∷ q) ∙ omega arith

    front : set s₀ n (get_or s₀ n 0 % 128) ≡ (p ++ ((v % 128) ∷ q)) ++ (c ∷ rest)
    front =
        ap (λ (x : ℕ). set s₀ n (x % 128)) (get_or_at p v (q ++ (c ∷ rest)) 0 n hp)
        ∙ set_at p v (q ++ (c ∷ rest)) (v % 128) n hp
        ∙ sym (append_assoc p ((v % 128) ∷ q) (c ∷ rest))

    last : get_or s₀ 5 0 ≡ c
    last =
        ap (λ (s : List ℕ). get_or s 5 0) (sym (append_assoc p (v ∷ q) (c ∷ rest)))
        ∙ get_or_at (p ++ (v ∷ q)) c rest 0 5 (length-append p (v ∷ q) ∙ omega arith)

-- the byte of a bit and the next seven
low_byte : (b : Bool) (ys : List Bool) → 7 ≤ length ys → number (take 8 (b ∷ ys)) % 128 ≡ number (take 7 ys)
unfolding number
low_byte b ys h =
    let l : length (take 7 ys) ≡ 7 = length-take-le 7 ys h in
    let lt : number (take 7 ys) < 2 ^ 7 = rw l at (number_lt (take 7 ys)) in
    ap (λ (k : ℕ). (digit b * 2 ^ k + number (take 7 ys)) % 128) l ∙ digits_mod (digit b) lt

-- of a check and the end bit the end bit is left
end-bit : (check : List Bool) → length check ≡ 7 → number (take 8 (check ++ (true ∷ []))) % 2 ≡ 1
unfolding number
end-bit check h =
    ap (λ (x : List Bool). number x % 2) (take_all 8 (check ++ (true ∷ [])) (omega (arith, length-append check (true ∷ []))))
    ∙ ap (λ (x : ℕ). x % 2) (number_append check (true ∷ []))
    ∙ omega arith

six-bytes : (n m : ℕ) (xs ys end : List Bool) → length xs ≡ 8 * n → length ys ≡ 8 * m → n + m ≡ 5
    → bytes 6 ((xs ++ ys) ++ end) ≡ bytes n xs ++ (bytes m ys ++ bytes 1 end)
six-bytes n m xs ys end hx hy h =
    let k : 6 ≡ n + (m + 1) = omega arith in
    ap₂ bytes k (append_assoc xs ys end)
    ∙ bytes_append n (m + 1) xs (ys ++ end) hx
    ∙ ap (λ (s : List ℕ). bytes n xs ++ s) (bytes_append m 1 ys end hy)

pub masked-bytes : (n m : ℕ) (xs ys check : List Bool) (b : Bool) (rest : List ℕ) → length xs ≡ 8 * n → length ys ≡ 7 + 8 * m → n + m ≡ 4
    → length check ≡ 7
    → masked n (bytes 6 ((xs ++ (b ∷ ys)) ++ (check ++ (true ∷ []))) ++ rest)
    ≡ bytes n xs ++ (number (take 7 ys) ∷ (bytes m (drop 7 ys) ++ (1 ∷ rest)))
unfolding bytes
masked-bytes n m xs ys check b rest hx hy h hc =
    let p : List ℕ = bytes n xs in
    let q : List ℕ = bytes m (drop 7 ys) in
    let end : List Bool = check ++ (true ∷ []) in
    ap (λ (s : List ℕ). masked n (s ++ rest)) (six-bytes n (suc m) xs (b ∷ ys) end hx (omega arith) (omega arith))
    ∙ ap (masked n)
    (append_assoc p (bytes (suc m) (b ∷ ys) ++ bytes 1 end) rest ∙ ap (λ (s : List ℕ). p ++ s) (append_assoc (bytes (suc m) (b ∷ ys)) (bytes 1 end) rest))
    ∙ masked_at n p q rest (number (take 8 (b ∷ ys))) (number (take 8 end)) (length-bytes n xs) (omega (arith, length-bytes m (drop 7 ys)))
    ∙ ap₂ (λ (v e : ℕ). p ++ (v ∷ (q ++ (e ∷ rest)))) (low_byte b ys (omega arith)) (end-bit check hc)
