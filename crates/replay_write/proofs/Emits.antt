-- A line in front of what is in the buffer.
use mathlib.Core.Path.{◌≡◌, refl, sym, ap, ap₂, ◌∙◌}
use mathlib.Core.List.{List, [], ◌∷◌, ◌++◌, append_assoc}
use Prim.Native.Nat.{ℕ, suc, ◌+◌, ◌-◌, ◌*◌, ◌≤◌, ◌<◌}
use native.Mathlib.Numerals.{add-one}
use native.Mathlib.Omega.{arith}
use borrow.Author.Tests.{le-ltb, lt-ltb}
use borrow.Rule.Slice.PartMut.{put_mid, Post-is}
use lib.ListN.{length, take, drop, set, length-append, length-drop}
use lib.Seq.{take_all, take_at, drop-cons, drop-drop, drop-append-add, take-set-le, drop-set-lt, get_or-set_same, lt-length-set}
use Rattle.codec.specs.Answer.{BUFFER, done, refuse}
use Rattle.replay_write.specs.declared.Kind.{Kind}
use Rattle.replay_write.specs.declared.Kind.TheVariants.{Command, Response, Block, Memory}
use Rattle.replay_read.specs.Hex.{hex}
use Rattle.replay_write.specs.Write.{word, fitted}
use Rattle.replay_read.proofs.Digits.{length-hex}

pub no_room : (line text : List ℕ) → length text < length line → refuse BUFFER text ≡ fitted line text
unfolding fitted
no_room line text h = rw (lt-ltb _ _ h)

pub room : (line text : List ℕ) (n : ℕ) (after : List ℕ) → length line ≤ length text → n ≡ length line → after ≡ line ++ drop (length line) text
    → record { answer = done n; buffer = after } ≡ fitted line text
unfolding fitted
room line text n after h en ea = rw (le-ltb _ _ h, en, ea)

-- the tag in front, the newline behind, and the digits put between
module _ (tag digits text : List ℕ) (e : ℕ) (four : length tag ≡ 4) (he : e ≡ 4 + length digits) (h : e < length text) where
  tagged : List ℕ
  tagged = tag ++ drop 4 text

  ended : List ℕ
  ended = set tagged e 10

  front : take 4 ended ≡ tag
  unfolding ended tagged
  front = take-set-le 4 tagged e 10 (omega arith) ∙ take_at tag (drop 4 text) 4 four

  behind : drop e ended ≡ 10 ∷ drop (e + 1) text
  unfolding ended tagged
  behind =
      let le : e < length tagged = simp (length-append, length-drop) (omega arith) in
      let k : ℕ = suc e - length tag in
      let ek : suc e ≡ length tag + k = omega arith in
      let e4 : suc e ≡ 4 + k = omega arith in
      drop-cons ended e 0 (lt-length-set tagged e 10 le)
      ∙ ap₂ (λ (x : ℕ) (l : List ℕ). x ∷ l) (get_or-set_same tagged e 10 0 le)
      (drop-set-lt (suc e) tagged e 10 (omega arith)
      ∙ ap (λ (n : ℕ). drop n tagged) ek
      ∙ drop-append-add tag (drop 4 text) k
      ∙ drop-drop k 4 text
      ∙ ap (λ (n : ℕ). drop n text) (sym e4 ∙ sym (add-one e)))

  joined : put_mid 4 (e - 4) ended digits ≡ (tag ++ (digits ++ (10 ∷ []))) ++ drop (e + 1) text
  joined =
      ap₂ (λ (a b : List ℕ). a ++ (digits ++ b)) front (Post-is 4 e ended (omega arith) ∙ behind)
      ∙ ap (λ (l : List ℕ). tag ++ l) (sym (append_assoc digits (10 ∷ []) (drop (e + 1) text)))
      ∙ sym (append_assoc tag (digits ++ (10 ∷ [])) (drop (e + 1) text))

  pub emitted : (copied : List ℕ) → copied ≡ take (length text) tag ++ drop (length tag) text
      → record { answer = done (e + 1); buffer = put_mid 4 (e - 4) (set copied e 10) digits } ≡ fitted (tag ++ (digits ++ (10 ∷ []))) text
  unfolding ended tagged
  emitted copied ec =
      let line : List ℕ = tag ++ (digits ++ (10 ∷ [])) in
      let l : length line ≡ e + 1 = simp length-append (omega arith) in
      let c : copied ≡ tagged = ec ∙ ap₂ (λ (a : List ℕ) (n : ℕ). a ++ drop n text) (take_all (length text) tag (omega arith)) four in
      room line text (e + 1) _ (omega arith) (sym l)
      (ap (λ (s : List ℕ). put_mid 4 (e - 4) (set s e 10) digits) c ∙ joined ∙ ap (λ (n : ℕ). line ++ drop n text) (sym l))

-- a response or a block, from the digits that were filled in
length-word : (kind : Kind) → length (word kind) ≡ 4
length-word Command = refl
length-word Response = refl
length-word Block = refl
length-word Memory = refl

module _ (kind : Kind) (bytes text : List ℕ) where
  line : List ℕ
  line = word kind ++ (hex bytes ++ (10 ∷ []))

  length-line : length line ≡ 5 + 2 * length bytes
  unfolding line
  length-line = simp (length-append, length-hex, length-word) (omega arith)

  pub no-bytes_line : length text < 5 + 2 * length bytes → refuse BUFFER text ≡ fitted (word kind ++ (hex bytes ++ (10 ∷ []))) text
  unfolding line
  no-bytes_line h = no_room line text (omega (arith, length-line))

  pub bytes-line : (tag copied digits : List ℕ) → 4 + 2 * length bytes < length text → tag ≡ word kind
      → copied ≡ take (length text) tag ++ drop (length tag) text → digits ≡ hex bytes
      → record {
        answer = done (4 + 2 * length bytes + 1);
        buffer = put_mid 4 (4 + 2 * length bytes - 4) (set copied (4 + 2 * length bytes) 10) digits;
      } ≡ fitted (word kind ++ (hex bytes ++ (10 ∷ []))) text
  bytes-line tag copied digits h et ec ed =
      emitted tag digits text (4 + 2 * length bytes) (ap length et ∙ length-word kind) (omega (arith, ap length ed, length-hex bytes)) h copied ec
      ∙ ap₂ (λ (a b : List ℕ). fitted (a ++ (b ++ (10 ∷ []))) text) et ed
