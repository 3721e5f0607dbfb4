-- R2: 3Fh, then the sixteen bytes of a register, the last of them its own check.
use mathlib.Core.Path.{◌≡◌, refl, sym, ap, ap₂, ◌∙◌}
use mathlib.Core.Bool.{Bool, true, false, cond, ◌&&◌, and-true, and-eq-true_iff}
use mathlib.Core.List.{List, [], ◌∷◌, ◌++◌}
use Prim.Native.Nat.{ℕ, suc, ◌<◌}
use native.Mathlib.Omega.{arith}
use borrow.Author.Tests.{eq-eqb, ne_eqb, eqb-true}
use lib.Dec.{eqb}
use lib.ListN.{length, get_or, take, drop, replicate, length-drop}
use lib.Seq.{take_all}
use Rattle.crc.specs.Bits.{bits, number, bits_of, Bytes}
use Rattle.crc.specs.Crc.{crc, poly7}
use Rattle.crc.specs.Detection.{same}
use Rattle.codec.specs.Answer.{done, refused, SIZE, WRONG}
use Rattle.codec.specs.Layout.{field, width, judged}
use Rattle.codec.specs.Format.{right, ended}
use Rattle.codec.proofs.Words.{right-ended}
use Rattle.wire_response.specs.Response.{r2, r2_bytes, decode_r2, register_right}
use Rattle.wire_response.specs.Claims.{R2RoundTrip}
use Rattle.wire_response.proofs.Shorts.{judged-index}

-- ---- decoding

pub register-size : (s : List ℕ) → (length s ≡ 17 → ⊥) → decode_r2 s ≡ refused SIZE
unfolding decode_r2
register-size s h = simp (ne_eqb (length s) 17 h)

register-wrong : (s : List ℕ) → length s ≡ 17 → right r2 s ≡ false → decode_r2 s ≡ refused WRONG
unfolding decode_r2
register-wrong s h e = simp (eq-eqb (length s) 17 h, e)

register-right : (s : List ℕ) → length s ≡ 17 → right r2 s ≡ true → decode_r2 s ≡ done (drop 1 s)
unfolding decode_r2
register-right s h e = simp (eq-eqb (length s) 17 h, e)

module _ (s : List ℕ) (h : length s ≡ 17) (b : Bytes s) where
  judged-register : judged r2.slots (bits_of s) ≡ eqb (get_or s 0 0) 63
  unfolding judged
  judged-register = judged-index 63 (replicate 15 (field 8)) s (omega arith) b ∙ and-true (eqb (get_or s 0 0) 63)

  pub register-first : (get_or s 0 0 ≡ 63 → ⊥) → decode_r2 s ≡ refused WRONG
  unfolding right
  register-first e =
      register-wrong s h
      (ap (λ (t : Bool). t && same (drop (width r2.slots) (bits_of s)) (ended r2.ending (take (width r2.slots) (bits_of s))))
      (judged-register ∙ ne_eqb (get_or s 0 0) 63 e))

  behind-first : (t : List ℕ) → length t ≡ 17 → drop 1 (take 16 t) ≡ take 15 (drop 1 t)
  behind-first [] h = absurd (omega arith)
  behind-first (x ∷ t) h = refl

  module _ (c : ℕ) (hc : c < 256) (e : bits 8 c ≡ crc poly7 (bits_of (take 15 (drop 1 s))) ++ (true ∷ [])) (first : get_or s 0 0 ≡ 63) where
    right-last : right r2 s ≡ eqb (get_or s 16 0) c
    unfolding width
    right-last =
        right-ended r2 s 16 1 c refl refl h (omega arith) (b 16) hc
        (e ∙ ap (λ (q : List ℕ). crc poly7 (bits_of q) ++ (true ∷ [])) (sym (behind-first s h)))
        ∙ ap (λ (t : Bool). t && eqb (get_or s 16 0) c) (judged-register ∙ eq-eqb (get_or s 0 0) 63 first)

    pub register-last : (get_or s 16 0 ≡ c → ⊥) → decode_r2 s ≡ refused WRONG
    register-last n = register-wrong s h (right-last ∙ ne_eqb (get_or s 16 0) c n)

    pub register-done : get_or s 16 0 ≡ c → decode_r2 s ≡ done (take 16 (drop 1 s))
    register-done q =
        register-right s h (right-last ∙ eq-eqb (get_or s 16 0) c q) ∙ ap done (sym (take_all 16 (drop 1 s) (omega (arith, length-drop 1 s))))

-- ---- both ways

-- behind 3Fh the judge of an R2 looks at the register's own check
right-register : (register : List ℕ) → right r2 (r2_bytes register) ≡ register_right register
unfolding right register_right judged width ended bits_of bits number
right-register register = refl

record Decoded (s register : List ℕ) : Type 0 where
  whole : length s ≡ 17
  sound : right r2 s ≡ true
  register_is : drop 1 s ≡ register

decoded : (s register : List ℕ) → decode_r2 s ≡ done register → Decoded s register
unfolding decode_r2
decoded s register e = go (eqb (length s) 17) (right r2 s) refl refl e
  where
    go : (p q : Bool) → eqb (length s) 17 ≡ p → right r2 s ≡ q
        → cond p (cond q (done (drop 1 s)) (refused WRONG)) (refused SIZE) ≡ done register → Decoded s register
    go true true hp hq h = record { whole = eqb-true (length s) 17 hp; sound = hq; register_is = cc }
    go true false hp hq h = let z : ◌≡◌ {A = ℕ} 0 1 = cc in absurd (omega arith)
    go false q hp hq h = let z : ◌≡◌ {A = ℕ} 0 1 = cc in absurd (omega arith)

first_is : (s : List ℕ) → length s ≡ 17 → Bytes s → right r2 s ≡ true → get_or s 0 0 ≡ 63
unfolding right
first_is s h b e =
    eqb-true (get_or s 0 0) 63
    (sym (judged-register s h b)
    ∙ ((and-eq-true_iff (judged r2.slots (bits_of s))
    (same (drop (width r2.slots) (bits_of s)) (ended r2.ending (take (width r2.slots) (bits_of s))))).0 e).0)

first_rest : (s : List ℕ) → length s ≡ 17 → get_or s 0 0 ∷ drop 1 s ≡ s
first_rest [] h = absurd (omega arith)
first_rest (x ∷ s) h = refl

pub r2_trip : R2RoundTrip
r2_trip = record {
  decode-encode = λ register h e. register-right (r2_bytes register) (ap suc h) (right-register register ∙ e);
  wrong-check = λ register h e. register-wrong (r2_bytes register) (ap suc h) (right-register register ∙ e);
  decoded-size =
      λ s register e. let d = decoded s register e in ap length (sym d.register_is) ∙ omega (arith, length-drop 1 s, d.whole);
  encode-decode =
      λ s register b e.
      let d = decoded s register e in
      ap₂ (λ (x : ℕ) (q : List ℕ). x ∷ q) (sym (first_is s d.whole b d.sound)) (sym d.register_is) ∙ first_rest s d.whole;
}
