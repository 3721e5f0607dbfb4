-- Round trips, over every format whose bytes are as many as its slots and its check fill.
use mathlib.Core.Path.{◌≡◌, refl, sym, ap, ap₂, ◌∙◌}
use mathlib.Core.Bool.{Bool, true, false, cond, and-eq-true_iff}
use mathlib.Core.List.{List, [], ◌∷◌, ◌++◌}
use Prim.Native.Nat.{ℕ, ◌+◌, ◌*◌, ◌≤◌}
use native.Mathlib.Omega.{arith}
use borrow.Author.Tests.{eqb-true, eq-eqb}
use lib.Dec.{T, eqb, eqb→eq}
use lib.ListN.{length, take, drop, length-append, take-append-drop}
use lib.Seq.{take_at, drop_at}
use Rattle.crc.specs.Bits.{bits_of, bytes, Bytes}
use Rattle.crc.specs.Crc.{crc, poly7}
use Rattle.crc.specs.Detection.{same}
use Rattle.crc.proofs.Bits.{length-bits, length-bits_of, length-bytes, bits_of-bytes, bytes-bits_of}
use Rattle.crc.proofs.Register.{length-crc}
use Rattle.codec.specs.Answer.{done, refused, SIZE, WRONG}
use Rattle.codec.specs.Layout.{width, write, read, fits, judged, blank, kept}
use Rattle.codec.specs.Format.{Ending, bare, crc7_from, Format, end_width, sized, ended, image, right, decode}
use Rattle.codec.specs.RoundTrip.{FormatsRoundTrip}
use Rattle.codec.proofs.Bits.{both, same_eq, same_true}
use Rattle.codec.proofs.Slots.{length-write, read-write, judged-write, write_read, fits_read}
use Rattle.codec.proofs.Kept.{read_kept, kept_read}

-- ---- sizes

length-poly7 : length poly7 ≡ 7
unfolding poly7
length-poly7 = length-bits 7 9

pub length-ended : (e : Ending) (bs : List Bool) → length (ended e bs) ≡ end_width e
unfolding ended end_width
length-ended bare bs = refl
length-ended (crc7_from k) bs =
    length-append (crc poly7 (drop k bs)) (true ∷ []) ∙ omega (arith, length-poly7, length-crc poly7 (omega (arith, length-poly7)) (drop k bs))

pub length-image : (f : Format) (vs : List ℕ) → length (image f vs) ≡ f.size
unfolding image
length-image f vs = length-bytes f.size (write f.slots vs ++ ended f.ending (write f.slots vs))

-- ---- what a decoder answers

pub record Decoded (f : Format) (s vs : List ℕ) : Type 0 where
  pub whole : length s ≡ f.size
  pub sound : right f s ≡ true
  pub values : read f.slots (bits_of s) ≡ vs

pub decode-done : (f : Format) (s vs : List ℕ) → Decoded f s vs → decode f s ≡ done vs
unfolding decode
decode-done f s vs d =
    ap₂ (λ (p q : Bool). cond p (cond q (done (read f.slots (bits_of s))) (refused WRONG)) (refused SIZE)) (eq-eqb (length s) f.size d.whole) d.sound
    ∙ ap done d.values

pub done-decode : (f : Format) (s vs : List ℕ) → decode f s ≡ done vs → Decoded f s vs
unfolding decode
done-decode f s vs e = go (eqb (length s) f.size) (right f s) refl refl e
  where
    go : (p q : Bool) → eqb (length s) f.size ≡ p → right f s ≡ q
        → cond p (cond q (done (read f.slots (bits_of s))) (refused WRONG)) (refused SIZE) ≡ done vs → Decoded f s vs
    go true true hp hq h = record { whole = eqb-true (length s) f.size hp; sound = hq; values = cc }
    go true false hp hq h = let z : ◌≡◌ {A = ℕ} 0 1 = cc in absurd (omega arith)
    go false true hp hq h = let z : ◌≡◌ {A = ℕ} 0 1 = cc in absurd (omega arith)
    go false false hp hq h = let z : ◌≡◌ {A = ℕ} 0 1 = cc in absurd (omega arith)

decode-size : (f : Format) (s : List ℕ) → eqb (length s) f.size ≡ false → decode f s ≡ refused SIZE
unfolding decode
decode-size f s h = ap (λ (p : Bool). cond p (cond (right f s) (done (read f.slots (bits_of s))) (refused WRONG)) (refused SIZE)) h

right-parts : (f : Format) (s : List ℕ) → right f s ≡ true
    → (judged f.slots (bits_of s) ≡ true) × (drop (width f.slots) (bits_of s) ≡ ended f.ending (take (width f.slots) (bits_of s)))
unfolding right
right-parts f s h =
    let w = width f.slots in
    let (j, c) = (and-eq-true_iff (judged f.slots (bits_of s)) (same (drop w (bits_of s)) (ended f.ending (take w (bits_of s))))).0 h in
    (j, same_true (drop w (bits_of s)) (ended f.ending (take w (bits_of s))) c)

module _ (f : Format) (fill : T (sized f)) where
  filled : 8 * f.size ≡ width f.slots + end_width f.ending
  unfolding sized
  filled = eqb→eq (8 * f.size) (width f.slots + end_width f.ending) fill

  wide : (s : List ℕ) → length s ≡ f.size → width f.slots ≤ length (bits_of s)
  wide s h = omega (arith, filled, length-bits_of s)

  bits_of-image : (vs : List ℕ) → bits_of (image f vs) ≡ write f.slots vs ++ ended f.ending (write f.slots vs)
  unfolding image
  bits_of-image vs =
      let bs = write f.slots vs in
      let c = ended f.ending bs in
      bits_of-bytes f.size (bs ++ c) (length-append bs c ∙ omega (arith, filled, length-write f.slots vs, length-ended f.ending bs))

  right-image : (vs : List ℕ) → fits f.slots vs ≡ true → right f (image f vs) ≡ true
  unfolding right
  right-image vs h =
      let w = width f.slots in
      let bs = write f.slots vs in
      let c = ended f.ending bs in
      let l : length bs ≡ w = length-write f.slots vs in
      rw (bits_of-image vs)
      (both (judged-write f.slots vs c h)
      (same_eq (drop w (bs ++ c)) (ended f.ending (take w (bs ++ c))) (drop_at bs c w l ∙ ap (ended f.ending) (sym (take_at bs c w l)))))

  pub decode-image : (vs : List ℕ) → fits f.slots vs ≡ true → decode f (image f vs) ≡ done vs
  decode-image vs h =
      decode-done f (image f vs) vs
      (record {
        whole = length-image f vs;
        sound = right-image vs h;
        values = ap (read f.slots) (bits_of-image vs) ∙ read-write f.slots vs (ended f.ending (write f.slots vs)) h;
      })

  pub decode-fits : (s vs : List ℕ) → decode f s ≡ done vs → fits f.slots vs ≡ true
  decode-fits s vs e =
      let d = done-decode f s vs e in
      ap (fits f.slots) (sym d.values) ∙ fits_read f.slots (bits_of s) (wide s d.whole) (right-parts f s d.sound).0

  pub image-decode : (s vs : List ℕ) → Bytes s → decode f s ≡ done vs → blank f.slots (bits_of s) ≡ true → image f vs ≡ s
  unfolding image
  image-decode s vs hs e b =
      let d = done-decode f s vs e in
      let w = width f.slots in
      let r = right-parts f s d.sound in
      let p : write f.slots vs ≡ take w (bits_of s) = ap (write f.slots) (sym d.values) ∙ write_read f.slots (bits_of s) (wide s d.whole) r.0 b in
      ap₂ (λ (k : ℕ) (x : List Bool). bytes k (x ++ ended f.ending x)) (sym d.whole) p
      ∙ ap (λ (x : List Bool). bytes (length s) (take w (bits_of s) ++ x)) (sym r.1)
      ∙ ap (bytes (length s)) (take-append-drop w (bits_of s))
      ∙ bytes-bits_of s hs

  pub decode_ignores : (s t : List ℕ) → length t ≡ length s → right f s ≡ true → right f t ≡ true
      → kept f.slots (bits_of s) ≡ kept f.slots (bits_of t) → decode f s ≡ decode f t
  decode_ignores s t hl hs ht e = go (eqb (length s) f.size) refl
    where
      go : (p : Bool) → eqb (length s) f.size ≡ p → decode f s ≡ decode f t
      go true h =
          let l : length s ≡ f.size = eqb-true (length s) f.size h in
          let m : length t ≡ f.size = hl ∙ l in
          decode-done f s (read f.slots (bits_of t)) (record { whole = l; sound = hs; values = read_kept f.slots (bits_of s) (bits_of t) (wide s l) (wide t m) e })
          ∙ sym (decode-done f t (read f.slots (bits_of t)) (record { whole = m; sound = ht; values = refl }))
      go false h = decode-size f s h ∙ sym (decode-size f t (ap (λ (n : ℕ). eqb n f.size) hl ∙ h))

  pub decode_exact : (s t vs : List ℕ) → decode f s ≡ done vs → decode f t ≡ done vs
      → kept f.slots (bits_of s) ≡ kept f.slots (bits_of t)
  decode_exact s t vs es et =
      let ds = done-decode f s vs es in
      let dt = done-decode f t vs et in
      kept_read f.slots (bits_of s) (bits_of t) (wide s ds.whole) (wide t dt.whole)
      (right-parts f s ds.sound).0 (right-parts f t dt.sound).0
      (ds.values ∙ sym dt.values)

-- ---- the laws together: every format whose slots and check fill its bytes has them

pub round_trip : FormatsRoundTrip
round_trip f fill = record {
  decode-encode = decode-image f fill;
  decoded-fits = decode-fits f fill;
  encode-decode = image-decode f fill;
  ignores_reserved = decode_ignores f fill;
  ignores_nothing_else = decode_exact f fill;
}
