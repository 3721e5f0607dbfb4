-- The bench's settings are allowed, so on 64 blocks of memory its power-up with no password is not refused.
use mathlib.Core.Path.{◌≡◌, refl, ap, ◌∙◌}
use mathlib.Core.Bool.{true}
use mathlib.Core.List.{List, []}
use Prim.Native.Nat.{ℕ}
use borrow.Author.Tests.{eq-eqb}
use lib.ListN.{length}
use Rattle.codec.specs.Layout.{fits}
use Rattle.reg_size.specs.Size.{divides, pair_from, size_pair}
use Rattle.card.specs.declared.Card.{Card}
use Rattle.card.specs.declared.Password.{Password}
use Rattle.card.specs.Settings.{capacity, allowed}
use Rattle.card.specs.Step.{start, applies, refusal, power_up, powered_up, step}
use Rattle.card.specs.Lock.{no_password}
use Rattle.card.specs.Reading.{bench}
use Rattle.card_call.specs.declared.Stepped.{Stepped}
use Rattle.card_call.specs.Seen.{Seen, returned, stepped}

bench-allowed : allowed bench ≡ true
unfolding allowed size_pair pair_from divides fits
bench-allowed = refl

pub powered : (card : Card) (memory : List ℕ) (p : Password) (r : Stepped) → length memory ≡ capacity bench → p ≡ no_password
    → returned r memory [] ≡ stepped card memory (power_up bench p) → r.card ≡ start bench no_password
unfolding step powered_up refusal applies
powered card memory p r full none e =
    ap (λ (x : Seen). x.card) (e ∙ ap (λ (q : Password). stepped card memory (power_up bench q)) none)
    ∙ rw (eq-eqb (length memory) (capacity bench) full, bench-allowed)
