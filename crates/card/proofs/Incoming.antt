-- What a block is behind its framing: a payload of the size that is due, the stop token, or nothing that counts.
use mathlib.Core.Path.{◌≡◌, refl, ◌∙◌}
use mathlib.Core.Bool.{Bool, true, false, cond, not, ◌&&◌, ◌||◌, true≢false}
use mathlib.Core.List.{List}
use Prim.Native.Nat.{ℕ, ◌+◌}
use native.Mathlib.Omega.{arith}
use borrow.Author.Tests.{eqb-true}
use lib.Dec.{eqb}
use lib.ListN.{length, get_or, drop, length-take, length-drop}
use Rattle.wire_packet.specs.Packet.{CHECK, payload_of}
use Rattle.card.specs.declared.Core.{Core}
use Rattle.card.specs.Settings.{BLOCK}
use Rattle.card.specs.State.{in_spi, checking, open_of, writing_multiple, locking}
use Rattle.card.specs.Spi.{STOP_TRAN, start_token}
use Rattle.card.specs.Step.{Incoming, payload, stop, ignored, packet_in, token_in, incoming, packet_size, token_size, lone_byte, other_block}
use Rattle.card.proofs.Choices.{cond_elim}

-- all but the check
payload-length : (n : ℕ) (s : List ℕ) → length s ≡ n + CHECK → length (payload_of s) + CHECK ≡ n + CHECK
unfolding payload_of
payload-length n s e = simp length-take (omega (arith, e))

-- ---- the size of a block that row 1 lets pass

-- in SD mode, and in SPI mode of a block that is no lone byte
sized : (spi lone : Bool) (n size : ℕ) → not (eqb n (cond spi 1 0 + size) || (lone && eqb n 1)) ≡ false → (lone && eqb n 1) ≡ false → n ≡ cond spi 1 0 + size
sized spi lone n size e none = go (eqb n (cond spi 1 0 + size)) (lone && eqb n 1) refl e none
  where
    go : (a b : Bool) → eqb n (cond spi 1 0 + size) ≡ a → not (a || b) ≡ false → b ≡ false → n ≡ cond spi 1 0 + size
    go true b q e none = eqb-true n (cond spi 1 0 + size) q
    go false true q e none = absurd (true≢false none)
    go false false q e none = absurd (true≢false e)

nowhere : (a b : Bool) → b ≡ false → (a && b) ≡ false
nowhere true b e = e
nowhere false b e = refl

module _ (c : Core) (s : List ℕ) (P : Incoming → Type 0) (fits : other_block c s ≡ false)
    (some-payload : (right : Bool) (p : List ℕ) → length p + CHECK ≡ packet_size c → P (payload right p))
    (stopping : in_spi c.bus.mode ≡ true → P stop) (ignoring : P ignored)
  where
    payload_in : (checks : Bool) (t : List ℕ) → length t ≡ packet_size c → P (packet_in checks t)
    unfolding packet_size
    payload_in checks t e =
        let n = cond (locking (open_of c.bus.state)) c.length BLOCK in
        some-payload _ (payload_of t) (payload-length n t e)

    pub incoming_elim : P (incoming c.bus.mode (open_of c.bus.state) s)
    unfolding incoming token_in lone_byte token_size
    incoming_elim =
        let m = c.bus.mode in
        let o = open_of c.bus.state in
        cond_elim P (in_spi m)
        (λ spi. cond_elim P (eqb (length s) 1) (λ one. cond_elim P (eqb (get_or s 0 0) STOP_TRAN) (λ t. stopping spi) (λ t. ignoring))
        (λ more. cond_elim P (eqb (get_or s 0 0) (start_token o))
        (λ t.
        let size : length s ≡ cond (in_spi m) 1 0 + packet_size c = sized (in_spi m) (in_spi m && writing_multiple o) (length s) (packet_size c) fits (nowhere (in_spi m && writing_multiple o) (eqb (length s) 1) more) in
        let spied : length s ≡ 1 + packet_size c = rw spi at size in
        payload_in (checking m) (drop 1 s) (length-drop 1 s ∙ omega (arith, spied)))
        (λ t. ignoring)))
        (λ sd.
        let none : ((in_spi m && writing_multiple o) && eqb (length s) 1) ≡ false = rw sd refl in
        let size : length s ≡ cond (in_spi m) 1 0 + packet_size c = sized (in_spi m) (in_spi m && writing_multiple o) (length s) (packet_size c) fits none in
        let same : length s ≡ 0 + packet_size c = rw sd at size in
        payload_in true s (omega (arith, same)))
