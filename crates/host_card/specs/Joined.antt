-- Host and card joined, each fed the other's last word (02, order 2): the host's steps, and on the card the step that the histories
-- of demand 3 run, with chip select high.
use Rattle.std.specs.Prelude.{◌≡◌, false, List, [], ℕ, zero, suc, ◌+◌, ◌*◌, ◌≤◌, length, take}
use Rattle.codec.specs.Answer.{Outcome, done, refused}
use Rattle.codec.specs.Format.{decode}
use Rattle.reg_cid.specs.Cid.{cid, cid_values}
use Rattle.reg_csd.specs.Csd.{csd, csd_values}
use Rattle.host.specs.declared.Host.{Host}
use Rattle.host.specs.Host as Host
use Rattle.host.specs.Host.{Result, sent, selected, stopped, not_ready, begin, MOST}
use Rattle.card.specs.declared.Settings.{Settings}
use Rattle.card.specs.declared.State.TheVariants.{Tran}
use Rattle.card.specs.Settings.{csd_of}
use Rattle.card.specs.Step as Card
use Rattle.card.specs.Step.{World, Reply, silent, answered, over, command_frame, ROOM}
use Rattle.card.specs.History.{Start}

-- the output buffers that both are lent at each exchange, by how many are left; large enough
pub record Buffers : Type 0 where
  pub host : ℕ → List ℕ
  pub host_room : (n : ℕ) → Host.ROOM ≤ length (host n)
  pub card : ℕ → List ℕ
  pub card_room : (n : ℕ) → ROOM ≤ length (card n)

-- what the host hears of the card's answer: the bytes that were sent, or silence
abbrev pub heard_of : Outcome Reply → List ℕ → List ℕ
heard_of (done (Card.sent n)) out = take n out
heard_of (done silent) out = []
heard_of (done (answered n)) out = []
heard_of (done over) out = []
heard_of (refused k) out = []

-- the host's last step, the card with its memory, and how many exchanges were not made
pub record Meeting : Type 0 where
  pub result : Result
  pub world : World
  pub left : ℕ

abbrev pub meeting : Result → World → ℕ → Meeting
meeting r w n = record { result = r; world = w; left = n }

-- the host's step behind n exchanges, or the step that ended it before: each frame goes to the card, whose answer the next step is fed
unfoldable pub joined : ℕ → Buffers → Host → World → List ℕ → Meeting
joined zero b h w reply = meeting (Host.step h reply (b.host 0)) w 0
joined (suc n) b h w reply =
    let r = Host.step h reply (b.host (suc n)) in
    elim r.answer [
      | done word ↦ elim word [
        | sent k ↦
            let c = Card.step w (command_frame (take k r.out) false (b.card (suc n))) in
            joined n b r.host c.world (heard_of c.answer c.out)
        | selected ↦ meeting r w (suc n)
        | stopped k reason ↦ meeting r w (suc n)
        | not_ready ↦ meeting r w (suc n)
      ]
      | refused k ↦ meeting r w (suc n)
    ]

-- selected, after just so many exchanges and polls, with the card's RCA, and its CID and CSD ready for the decoders; memory stays
pub record BroughtUp (s : Settings) (handed : List ℕ) (m : Meeting) : Type 0 where
  pub answer : m.result.answer ≡ done selected
  pub exchanges : m.left ≡ 0
  pub polls : m.result.host.polls ≡ s.polls + 1
  pub rca : m.result.host.found.rca ≡ m.world.card.core.bus.rca
  pub cid : decode cid m.result.host.found.cid ≡ done (cid_values s.cid)
  pub csd : decode csd m.result.host.found.csd ≡ done (csd_values (csd_of s))
  pub state : m.world.card.core.bus.state ≡ Tran
  pub memory : m.world.memory ≡ handed

-- any settings that are allowed, any memory, fresh from power-up; the limit is at least one more than the start polls
abbrev pub BringsUp : Type 0
BringsUp = (w : World) (fresh : Start w) (limit : ℕ) → fresh.settings.polls + 1 ≤ limit → limit ≤ MOST → (b : Buffers)
    → BroughtUp fresh.settings w.memory (joined (2 * fresh.settings.polls + 8) b (begin limit) w [])
