-- The calls left at a loop's head.
use mathlib.Core.Path.{◌≡◌, refl, sym, ap, ◌∙◌}
use mathlib.Core.List.{List}
use Prim.Native.Nat.{ℕ, suc, ◌+◌, ◌-◌, ◌<◌, ◌≤◌}
use native.Mathlib.Omega.{arith}
use Rattle.card.specs.declared.Card.{Card}
use Rattle.card.specs.Step.{World, world, Call, answer, step}
use Rattle.card_call.specs.declared.Stepped.{Stepped}
use Rattle.card_call.specs.Seen.{Seen, returned, stepped, seen}
use Rattle.speed_open.proofs.Frames.{world_of}
use Rattle.speed_card.specs.Blocks.{right, Ran, ran, more, many}

module _ (call : List ℕ → Call) (k n : ℕ) where
  abbrev on : Seen → Ran
  on s = more call k (world_of s) s.out (n + right s.answer)

  more-suc : (w : World) (out : List ℕ) → more call (suc k) w out n ≡ on (seen (step w (call out)))
  unfolding more
  more-suc w out = refl

  pub called : (card : Card) (memory out : List ℕ) (r : Stepped) (memory' out' : List ℕ) (one : ℕ)
      → returned r memory' out' ≡ stepped card memory (call out) → one ≡ right (answer r.answer)
      → more call k (world r.card memory') out' (n + one) ≡ more call (suc k) (world card memory) out n
  called card memory out r memory' out' one h e =
      ap (λ (x : ℕ). more call k (world r.card memory') out' (n + x)) e
      ∙ ap on h
      ∙ sym (more-suc (world card memory) out)

pub behind : (call : List ℕ → Call) (count : ℕ) (out : List ℕ) {v w : World} {x : Ran} → v ≡ w → x ≡ many call count v out → x ≡ many call count w out
behind call count out p q = q ∙ ap (λ (y : World). many call count y out) p

-- all calls are left
pub all_left : (call : List ℕ → Call) (count : ℕ) (w : World) (out : List ℕ) → more call (count - 0) w out 0 ≡ many call count w out
all_left call count w out =
    let e : count - 0 ≡ count = omega arith in
    rw e

module _ (call : List ℕ → Call) (i count n : ℕ) where
  -- one call less is left
  pub less : (card : Card) (memory out : List ℕ) (r : Stepped) (memory' out' : List ℕ) (one : ℕ) → i < count
      → returned r memory' out' ≡ stepped card memory (call out) → one ≡ right (answer r.answer)
      → more call (count - (i + 1)) (world r.card memory') out' (n + one)
      ≡ more call (count - i) (world card memory) out n
  less card memory out r memory' out' one l h e =
      let s : count - i ≡ suc (count - (i + 1)) = omega arith in
      rw s (called call (count - (i + 1)) n card memory out r memory' out' one h e)

  pub none_left : (w : World) (out : List ℕ) → count ≤ i → ran w.memory out n ≡ more call (count - i) w out n
  unfolding more
  none_left w out l =
      let z : count - i ≡ 0 = omega arith in
      rw z
