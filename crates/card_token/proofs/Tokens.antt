-- What the first byte and the length of a block tell, case by case.
use mathlib.Core.Path.{◌≡◌, refl}
use mathlib.Core.Bool.{Bool, true, false, cond, ◌&&◌}
use mathlib.Core.List.{List, [], ◌∷◌}
use Prim.Native.Nat.{ℕ}
use native.Mathlib.Omega.{arith}
use borrow.Author.Tests.{ne_eqb}
use lib.Dec.{eqb}
use lib.ListN.{length, get_or, drop}
use Rattle.card.specs.declared.Mode.{Mode}
use Rattle.card.specs.declared.Mode.TheVariants.{Sd, Spi}
use Rattle.card.specs.declared.Open.{Open}
use Rattle.card.specs.State.{in_spi, checking, writing_multiple}
use Rattle.card.specs.Spi.{STOP_TRAN, START_BLOCK, START_MULTIPLE, start_token}
use Rattle.card.specs.Step.{Incoming, payload, stop, ignored, packet_in, token_in, incoming, token_size}
use Rattle.card_token.specs.declared.Arrived.TheVariants.{Packet, Stop, Ignored}
use Rattle.card_token.specs.Tokens.{kind}

-- no start token is 0
some-token : (o : Open) → 0 ≡ start_token o → ⊥
unfolding start_token
some-token o = go (writing_multiple o)
  where
    go : (b : Bool) → 0 ≡ cond b START_MULTIPLE START_BLOCK → ⊥
    go true e = omega arith
    go false e = omega arith

module _ (o : Open) (s : List ℕ) (checks : Bool) where
  pub nothing : length s ≡ 0 → Ignored ≡ kind (token_in checks o s)
  unfolding token_in
  nothing e = go s e
    where
      go : (t : List ℕ) → length t ≡ 0 → Ignored ≡ kind (token_in checks o t)
      go [] e = simp (ne_eqb 0 (start_token o) (some-token o))
      go (x ∷ t) e = absurd (omega arith)

-- ---- from what came in

-- a packet, behind its token
packet-behind : (lone stops starts : Bool) (x : Incoming) → kind (cond lone (cond stops stop ignored) (cond starts x ignored)) ≡ Packet
    → (cond lone (cond stops stop ignored) (cond starts x ignored) ≡ x) × (lone ≡ false)
packet-behind true true starts x e = absurd (let z : ◌≡◌ {A = ℕ} 0 1 = cc in omega arith)
packet-behind true false starts x e = absurd (let z : ◌≡◌ {A = ℕ} 0 1 = cc in omega arith)
packet-behind false stops true x e = (refl, refl)
packet-behind false stops false x e = absurd (let z : ◌≡◌ {A = ℕ} 0 1 = cc in omega arith)

pub packet_as : (m : Mode) (o : Open) (s : List ℕ) → kind (incoming m o s) ≡ Packet → incoming m o s ≡ packet_in (checking m) (drop (token_size m) s)
unfolding incoming token_in token_size
packet_as Sd o s e = refl
packet_as (Spi checks) o s e = (packet-behind (eqb (length s) 1) (eqb (get_or s 0 0) STOP_TRAN) (eqb (get_or s 0 0) (start_token o)) (packet_in checks (drop 1 s)) e).0

-- which is no lone byte
pub packet-long : (m : Mode) (o : Open) (s : List ℕ) → kind (incoming m o s) ≡ Packet → ((in_spi m && writing_multiple o) && eqb (length s) 1) ≡ false
unfolding incoming token_in
packet-long Sd o s e = refl
packet-long (Spi checks) o s e = go (writing_multiple o) (packet-behind (eqb (length s) 1) (eqb (get_or s 0 0) STOP_TRAN) (eqb (get_or s 0 0) (start_token o)) (packet_in checks (drop 1 s)) e).1
  where
    go : (b : Bool) {c : Bool} → c ≡ false → (b && c) ≡ false
    go true h = h
    go false h = refl

pub stop_as : (x : Incoming) → kind x ≡ Stop → x ≡ stop
stop_as (payload right s) e = absurd (let z : ◌≡◌ {A = ℕ} 0 1 = cc in omega arith)
stop_as stop e = refl
stop_as ignored e = absurd (let z : ◌≡◌ {A = ℕ} 0 1 = cc in omega arith)

pub ignored_as : (x : Incoming) → kind x ≡ Ignored → x ≡ ignored
ignored_as (payload right s) e = absurd (let z : ◌≡◌ {A = ℕ} 0 1 = cc in omega arith)
ignored_as stop e = absurd (let z : ◌≡◌ {A = ℕ} 0 1 = cc in omega arith)
ignored_as ignored e = refl
