-- The block's check and payload, and what the store leaves.
use mathlib.Core.Path.{◌≡◌, refl, sym, ap, ◌∙◌}
use mathlib.Core.Bool.{Bool, true, false, cond}
use mathlib.Core.List.{List}
use Prim.Native.Nat.{ℕ, ◌+◌, ◌-◌, ◌≤◌}
use native.Mathlib.Omega.{arith}
use borrow.Author.Tests.{le-leb}
use lib.ListN.{length, take, drop, length-drop}
use lib.Seq.{length-take-le, take-length}
use Rattle.std.specs.Prelude.{Option, Some, None, Result, Ok, Err}
use Rattle.std.specs.Borrow.{Bor}
use Rattle.std.specs.Option.{unwrap_or}
use Rattle.std.specs.Result.{is_ok}
use Rattle.std.proofs.lemmas.Option.{none-some}
use Rattle.codec.specs.declared.Refusal.{Refusal}
use Rattle.codec.specs.Answer.{Outcome, done, refused, WRONG, part_read}
use Rattle.wire_packet.specs.Packet.{CHECK, payload_of, packet_right, decode_packet}
use Rattle.card.specs.declared.Core.{Core}
use Rattle.card.specs.declared.done.Effect.TheVariants.{Store}
use Rattle.card.specs.declared.State.{State}
use Rattle.card.specs.Settings.{BLOCK}
use Rattle.card.specs.Record.{with_state}
use Rattle.card.specs.Status.{OUT_OF_RANGE, WP_VIOLATION}
use Rattle.card.specs.Effects.{Stored, stored, over, affected}
use Rattle.card_effect.specs.Apply.{reaches}
use Rattle.card_block_in.specs.Stores.{Decodes}

-- the decoder reads a payload exactly if the check is the payload's
read : Outcome (List ℕ) → Bool
read (done s) = true
read (refused k) = false

read_is : (r : Result (Bor (List ℕ)) Refusal) → is_ok r ≡ read (part_read r)
unfolding read
read_is (Ok part) = refl
read_is (Err e) = refl

pub judged : (p : List ℕ) (r : Result (Bor (List ℕ)) Refusal) → Decodes p → part_read r ≡ decode_packet p → is_ok r ≡ packet_right p
unfolding decode_packet read
judged p r d e =
    read_is r ∙ ap read e
    ∙ rw (le-leb 3 (length p) d.low, le-leb (length p) 514 d.high) (go (packet_right p))
  where
    go : (b : Bool) → read (cond b (done (payload_of p)) (refused WRONG)) ≡ b
    go true = refl
    go false = refl

-- the payload where it lies in a block
module _ (s : List ℕ) (a : ℕ) (d : Decodes (drop a s)) where
  pub room : a + (1 + CHECK) ≤ length s
  room = omega (arith, d.low, length-drop a s)

  pub rest : take (length s - a) (drop a s) ≡ drop a s
  rest = ap (λ (n : ℕ). take n (drop a s)) (sym (length-drop a s)) ∙ take-length (drop a s)

  pub lies : take (length s - CHECK - a) (drop a s) ≡ payload_of (drop a s)
  unfolding payload_of
  lies = let k : length s - CHECK - a ≡ length (drop a s) - CHECK = omega (arith, d.low, length-drop a s) in ap (λ (n : ℕ). take n (drop a s)) k

pub length-payload : (p : List ℕ) → length p ≡ BLOCK + CHECK → length (payload_of p) ≡ BLOCK
unfolding payload_of
length-payload p long = let k : length p - 2 ≡ BLOCK = omega arith in length-take-le (length p - 2) p (omega arith) ∙ k

-- a store that reaches no further than memory
pub stored_in : (all : Bool) (a : ℕ) (s memory marks memory' marks' : List ℕ) → a + length s ≤ length memory
    → stored memory' marks'
    ≡ cond (reaches (Store a) (length s) (length memory)) (affected all (Store a) s (stored memory marks)) (stored memory marks)
    → memory' ≡ over memory a s
unfolding affected
stored_in all a s memory marks memory' marks' h e =
    ap (λ (m : Stored). m.memory)
    (e
    ∙ ap (λ (b : Bool). cond b (affected all (Store a) s (stored memory marks)) (stored memory marks)) (le-leb (a + length s) (length memory) h))

-- the state is chosen, or the record
pub choice : (c : Core) (b : Bool) (s t : State) → cond b (with_state c s) (with_state c t) ≡ with_state c (cond b s t)
choice c true s t = refl
choice c false s t = refl

-- ---- the bit of a place

abbrev pub bit_of : Bool → Bool → Option ℕ
bit_of past kept = cond past (Some OUT_OF_RANGE) (cond kept (Some WP_VIOLATION) None)

pub held_by : {T : Type 0} (f : ℕ → T) (free : T) (past kept : Bool) (n : ℕ) → Some n ≡ bit_of past kept
    → f n ≡ cond past (f OUT_OF_RANGE) (cond kept (f WP_VIOLATION) free)
held_by f free true kept n h = ap (λ (o : Option ℕ). f (unwrap_or o 0)) h
held_by f free false true n h = ap (λ (o : Option ℕ). f (unwrap_or o 0)) h
held_by f free false false n h = absurd (none-some n (sym h))

pub inside : (past kept : Bool) → None ≡ bit_of past kept → past ≡ false
inside true kept h = absurd (none-some _ h)
inside false kept h = refl

pub unkept : (past kept : Bool) → None ≡ bit_of past kept → kept ≡ false
unkept true kept h = absurd (none-some _ h)
unkept false true h = absurd (none-some _ h)
unkept false false h = refl
