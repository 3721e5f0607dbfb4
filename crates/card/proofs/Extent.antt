-- Memory keeps its size, and marks stay inside the card: what a call does to them is inside.
use mathlib.Core.Path.{◌≡◌, ◌∙◌}
use mathlib.Core.Bool.{Bool}
use mathlib.Core.List.{List}
use Prim.Native.Nat.{ℕ, zero, suc, ◌+◌, ◌*◌, ◌≤◌, ◌<◌}
use native.Mathlib.Omega.{arith}
use lib.ListN.{length, replicate, length-append, length-take, length-drop, length-replicate}
use Rattle.card.specs.declared.Settings.{Settings}
use Rattle.card.specs.declared.done.Effect.{Effect}
use Rattle.card.specs.declared.done.Effect.TheVariants.{Nothing, Store, Sweep, Protect, ForceErase}
use Rattle.card.specs.Settings.{BLOCK, capacity, groups}
use Rattle.card.specs.Protect.{guarded}
use Rattle.card.specs.Effects.{Stored, over, swept_block, swept, affected}
use Rattle.card.proofs.Choices.{cond_elim}
use Rattle.card.proofs.Facts.{Marked}
use Rattle.card.proofs.Marks.{mark-marked, none-marked}

-- of a card with these settings
abbrev pub Inside : Settings → Effect → List ℕ → Type 0
Inside s Nothing payload = Unit {0}
Inside s (Store address) payload = address + length payload ≤ capacity s
Inside s (Sweep first count) payload = first + count ≤ s.blocks
Inside s (Protect group value) payload = group < groups s
Inside s ForceErase payload = Unit {0}

length_over : (a : ℕ) (s memory : List ℕ) → a + length s ≤ length memory → length (over memory a s) ≡ length memory
length_over a s memory h = simp (length-append, length-take, length-drop) (omega arith)

length-swept : (wp : Bool) (marks : List ℕ) (b k n : ℕ) (memory : List ℕ) → b + k ≤ n → length memory ≡ n * BLOCK
    → length (swept wp marks b k memory) ≡ n * BLOCK
unfolding swept swept_block
length-swept wp marks b zero n memory h e = e
length-swept wp marks b (suc k) n memory h e =
    let zeros : length (replicate {A = ℕ} BLOCK 0) ≡ BLOCK = length-replicate {A = ℕ} BLOCK 0 in
    length-swept wp marks (b + 1) k n _ (omega arith)
    (cond_elim (λ (m : List ℕ). length m ≡ n * BLOCK) (guarded wp marks (b * BLOCK)) (λ t. e)
    (λ t. rw (length_over (b * BLOCK) (replicate BLOCK 0) memory (omega arith)) e))

module _ (s : Settings) (wp : Bool) (payload : List ℕ) (m : Stored) where
  pub length-affected : (e : Effect) → Inside s e payload → length m.memory ≡ capacity s
      → length (affected wp e payload m).memory ≡ capacity s
  unfolding affected
  length-affected Nothing h l = l
  length-affected (Store address) h l = rw (length_over address payload m.memory (omega arith)) l
  length-affected (Sweep first count) h l = length-swept wp m.marks first count s.blocks m.memory h l
  length-affected (Protect group value) h l = l
  length-affected ForceErase h l = length-replicate {A = ℕ} (length m.memory) 0 ∙ l

  pub marked-affected : (e : Effect) → Inside s e payload → Marked s m.marks → Marked s (affected wp e payload m).marks
  unfolding affected
  marked-affected Nothing h l = l
  marked-affected (Store address) h l = l
  marked-affected (Sweep first count) h l = l
  marked-affected (Protect group value) h l = mark-marked s value m.marks group h l
  marked-affected ForceErase h l = none-marked (length m.marks) (groups s)
