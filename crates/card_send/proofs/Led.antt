-- A packet behind its start token.
use mathlib.Core.Path.{◌≡◌, refl, sym, ap, ◌∙◌}
use mathlib.Core.Bool.{Bool, true, false, cond, ◌&&◌, false≢true}
use mathlib.Core.List.{List, [], ◌∷◌, ◌++◌, append-nil}
use Prim.Native.Nat.{ℕ, suc, ◌+◌, ◌-◌, ◌≤◌}
use native.Mathlib.Numerals.{add-one}
use native.Mathlib.Omega.{arith}
use borrow.Rule.Slice.PartMut.{put_mid}
use borrow.Author.Tests.{le-leb, lt-ltb, le-ltb, ltb-true, ltb-false, leb-true}
use lib.Dec.{leb, ltb}
use lib.ListN.{length, take, drop, set}
use lib.Seq.{take-length, drop-length}
use Rattle.std.specs.Prelude.{Result, Ok, Err}
use Rattle.codec.specs.declared.Refusal.{Refusal}
use Rattle.codec.specs.Answer.{Outcome, done, refused, SIZE, BUFFER, Encoding, encoding, refuse, emit}
use Rattle.wire_packet.specs.Packet.{PAYLOAD, CHECK, packet, encode_packet}
use Rattle.wire_packet.proofs.Emitted.{length-packet}
use Rattle.card.specs.Spi.{START_BLOCK}
use Rattle.card_send.specs.Sending.{leading, encode_block}

-- an encoding behind the first byte of a buffer, where the token is put; a refusal leaves it
behind : ℕ → Outcome ℕ → List ℕ → Encoding
behind x (done n) s = record { answer = done (n + 1); buffer = START_BLOCK ∷ s }
behind x (refused k) s = refuse k (x ∷ s)

abbrev led : ℕ → Encoding → Encoding
led x e = behind x e.answer e.buffer

same-room : (n : ℕ) → ltb (suc n) (1 + (PAYLOAD + CHECK)) ≡ ltb n (PAYLOAD + CHECK)
same-room n = go (ltb n (PAYLOAD + CHECK)) refl
  where
    go : (b : Bool) → ltb n (PAYLOAD + CHECK) ≡ b → ltb (suc n) (1 + (PAYLOAD + CHECK)) ≡ b
    go true e = lt-ltb (suc n) (1 + (PAYLOAD + CHECK)) (omega (arith, ltb-true n (PAYLOAD + CHECK) e))
    go false e = le-ltb (suc n) (1 + (PAYLOAD + CHECK)) (omega (arith, ltb-false n (PAYLOAD + CHECK) e))

leads : (payload t : List ℕ) (x : ℕ) → led x (encode_packet payload t) ≡ encode_block true payload (x ∷ t)
unfolding encode_packet encode_block behind
leads payload t x = go (leb 1 (length payload) && leb (length payload) PAYLOAD) (ltb (length t) (PAYLOAD + CHECK)) _ (sym (same-room (length t)))
  where
    go : (a b c : Bool) → b ≡ c
        → led x (cond a (cond b (refuse BUFFER t) (emit (packet payload) t)) (refuse SIZE t))
        ≡ cond a (cond c (refuse BUFFER (x ∷ t)) (emit (START_BLOCK ∷ packet payload) (x ∷ t))) (refuse SIZE (x ∷ t))
    go false b c e = refl
    go true true true e = refl
    go true false false e =
        ap {B = Encoding} (λ (n : ℕ). record { answer = done n; buffer = START_BLOCK ∷ packet payload ++ drop (length (packet payload)) t })
        (add-one (length (packet payload)))
    go true true false e = absurd (false≢true (sym e))
    go true false true e = absurd (false≢true e)

-- no more bytes than a packet has
count : Outcome ℕ → ℕ
count (done n) = n
count (refused k) = 0

few : (payload t : List ℕ) → count (encode_packet payload t).answer ≤ PAYLOAD + CHECK
unfolding encode_packet count
few payload t = go (leb 1 (length payload)) (leb (length payload) PAYLOAD) (ltb (length t) (PAYLOAD + CHECK)) (leb-true _ _)
  where
    go : (a b c : Bool) → (b ≡ true → length payload ≤ PAYLOAD)
        → count (cond (a && b) (cond c (refuse BUFFER t) (emit (packet payload) t)) (refuse SIZE t)).answer ≤ PAYLOAD + CHECK
    go false b c h = omega arith
    go true false c h = omega arith
    go true true true h = omega arith
    go true true false h = omega (arith, length-packet payload, h refl)

pub encode-done : (spi : Bool) (payload out : List ℕ) → 1 ≤ length payload → length payload ≤ PAYLOAD → length (leading spi) + (PAYLOAD + CHECK) ≤ length out
    → emit (leading spi ++ packet payload) out ≡ encode_block spi payload out
unfolding encode_block
encode-done spi payload out h l r = simp (le-leb _ _ h, le-leb _ _ l, le-ltb _ _ r)

-- with no token it is the packet
pub bare : (payload out : List ℕ) → encode_packet payload out ≡ encode_block false payload out
unfolding encode_packet encode_block
bare payload out = refl

pub no_buffer : (payload out : List ℕ) → length out ≡ 0 → encode_packet payload out ≡ encode_block true payload out
unfolding encode_packet encode_block
no_buffer payload [] e = refl
no_buffer payload (x ∷ t) e = absurd (omega arith)

-- all but the first byte
tail : (t : List ℕ) → take (suc (length t) - 1) t ≡ t
tail t = let k : suc (length t) - 1 ≡ length t = omega arith in ap (λ (j : ℕ). take j t) k ∙ take-length t

no_more : (t made : List ℕ) → made ++ drop (suc (length t) - 1) t ≡ made
no_more t made =
    let k : suc (length t) - 1 ≡ length t = omega arith in
    ap (λ (j : ℕ). made ++ drop j t) k ∙ ap (λ (s : List ℕ). made ++ s) (drop-length t) ∙ append-nil made

-- the buffer with what the encoder made behind its first byte
abbrev around : List ℕ → List ℕ → List ℕ
around out made = put_mid 1 (length out - 1) out made

abbrev Told : List ℕ → List ℕ → Result ℕ Refusal → List ℕ → Type 0
Told payload out e made = encoding e made ≡ encode_packet payload (take (length out - 1) (drop 1 out))

pub few-wrote : (payload out : List ℕ) (e : Result ℕ Refusal) (made : List ℕ) (n : ℕ) → Told payload out e made → e ≡ Ok n → n ≤ PAYLOAD + CHECK
unfolding count
few-wrote payload out e made n told k =
    let same : n ≡ count (encode_packet payload (take (length out - 1) (drop 1 out))).answer =
    sym (ap (λ (y : Result ℕ Refusal). count (encoding y made).answer) k) ∙ ap (λ (y : Encoding). count y.answer) told in
    omega (arith, few payload (take (length out - 1) (drop 1 out)))

as_led : (payload t : List ℕ) (x : ℕ) (e f : Result ℕ Refusal) (made : List ℕ) → Told payload (x ∷ t) e made → e ≡ f
    → led x (encoding f made) ≡ encode_block true payload (x ∷ t)
as_led payload t x e f made told k =
    ap (λ (y : Result ℕ Refusal). led x (encoding y made)) (sym k)
    ∙ ap (led x) (told ∙ ap (encode_packet payload) (tail t))
    ∙ leads payload t x

pub wrote : (payload out : List ℕ) (e : Result ℕ Refusal) (made : List ℕ) (n : ℕ) → (length out ≡ 0 → ⊥) → Told payload out e made → e ≡ Ok n
    → encoding (Ok (n + 1)) (set (around out made) 0 START_BLOCK) ≡ encode_block true payload out
unfolding behind
wrote payload [] e made n some told k = absurd (some refl)
wrote payload (x ∷ t) e made n some told k =
    ap (λ (s : List ℕ). encoding (Ok (n + 1)) (START_BLOCK ∷ s)) (no_more t made) ∙ as_led payload t x e (Ok n) made told k

pub refused_as : (payload out : List ℕ) (e : Result ℕ Refusal) (made : List ℕ) (n : Refusal) → (length out ≡ 0 → ⊥) → Told payload out e made → e ≡ Err n
    → encoding (Err n) (around out made) ≡ encode_block true payload out
unfolding behind
refused_as payload [] e made n some told k = absurd (some refl)
refused_as payload (x ∷ t) e made n some told k =
    ap (λ (s : List ℕ). encoding (Err n) (x ∷ s)) (no_more t made) ∙ as_led payload t x e (Err n) made told k
