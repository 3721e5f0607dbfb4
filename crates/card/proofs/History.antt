-- Demand 3, over every history: by induction on its entries, with two worlds that agree but for COM_CRC_ERROR.
use mathlib.Core.Path.{◌≡◌, refl, ap, ◌∙◌}
use mathlib.Core.Bool.{Bool, false}
use mathlib.Core.List.{List, [], ◌∷◌}
use Prim.Native.Nat.{ℕ, ◌+◌, ◌≤◌}
use lib.ListN.{drop}
use Rattle.wire_frame.specs.Command.{frame_check, good}
use Rattle.wire_frame.specs.Damage.{DamagedFrame}
use Rattle.wire_packet.specs.Packet.{PAYLOAD, CHECK, packet_right}
use Rattle.wire_packet.specs.Damage.{DamagedBlock}
use Rattle.wire_frame.proofs.Detection.{frame-caught}
use Rattle.wire_packet.proofs.Detection.{block-caught}
use Rattle.card.specs.Step.{Call, power_up, command_frame, block_in, take_block, busy_over, World, packet_size, token_size, next, step}
use Rattle.card.specs.declared.Core.{Core}
use Rattle.card.specs.State.{in_spi}
use Rattle.card.specs.History.{Sound, KeepsSound, StartsSound, Entry, call, copy, spi_of, SameWorld, hidden, Unharmed, Alike, Unheard, Agree, Demand3}
use Rattle.card.proofs.Sound.{starts-sound, keeps_sound}
use Rattle.card.proofs.Alike.{Matched, step-alike}
use Rattle.card.proofs.Damaged.{copy_unheard, block-not_stored}

module _
    (caught : (f : List ℕ) → DamagedFrame f → (index argument : ℕ) → frame_check f ≡ good index argument → ⊥)
    (wrong : (size : ℕ) → size ≤ PAYLOAD + CHECK → (s : List ℕ) → DamagedBlock size s → packet_right s ≡ false)
  where
    unharmed : (w : World) (c : Call) → Unharmed w c
    unharmed w (block_in s) =
        λ checks d.
        block-not_stored w s checks (λ short. wrong (packet_size w.card.core) short (drop (token_size w.card.core.bus.mode) s) d)
    unharmed w (power_up s p) = tt
    unharmed w (command_frame frame low out) = tt
    unharmed w (take_block out) = tt
    unharmed w busy_over = tt

    alike : (a b : World) → SameWorld a b → (c : Call) → Alike a b c
    alike a b e c =
        let m : Matched (spi_of a) c (step a c) (step b c) = step-alike a b e c in
        let modes : spi_of a ≡ spi_of b = ap (λ (d : Core). in_spi d.bus.mode) e.core in
        record {
          answer = m.answer;
          out = m.out ∙ ap (λ (spi : Bool). hidden spi c (step b c).answer (step b c).out) modes;
          world = m.world;
          with_copies = unharmed a c;
          without = unharmed b c;
        }

    agree : KeepsSound → (h : List Entry) (a b : World) → SameWorld a b → Sound a → Agree a b h
    agree keeps [] a b e s = tt
    agree keeps (call c ∷ h) a b e s =
        let x : Alike a b c = alike a b e c in
        (x, agree keeps h (next a c) (next b c) x.world (keeps a c s))
    agree keeps (copy frame low out d room ∷ h) a b e s =
        λ checks.
        let x : Unheard a b frame low out = copy_unheard a b frame low out e s d.got_size room checks (caught frame d) in
        (x, agree keeps h (next a (command_frame frame low out)) b x.world (keeps a (command_frame frame low out) s))

    pub from : StartsSound → KeepsSound → Demand3
    from starts keeps w st h = agree keeps h w w (record { core = refl; password = refl; memory = refl; line = λ e. refl }) (starts w st)

-- with the error-detection law of the two checks, and with what every call keeps: nothing is assumed
pub demand3 : Demand3
demand3 = from frame-caught.never-good block-caught starts-sound keeps_sound
