-- What the rows of a block in that do not apply tell.
use mathlib.Core.Path.{◌≡◌, refl, sym, ap, ap₂, ◌∙◌}
use mathlib.Core.Bool.{Bool, true, false, cond, not, ◌||◌, true≢false}
use mathlib.Core.List.{List, []}
use mathlib.Core.Logic.{◌⊎◌, inl, inr}
use mathlib.Core.Option.{none}
use Prim.Native.Nat.{ℕ, ◌+◌, ◌%◌, ◌≤◌}
use native.Mathlib.Omega.{arith}
use borrow.Author.Tests.{eqb-true, not-false}
use lib.ListN.{length, get_or, drop, length-drop}
use Rattle.wire_packet.specs.Packet.{PAYLOAD, CHECK}
use Rattle.card.specs.declared.answer.Rows.{Rows}
use Rattle.card.specs.declared.done.Flag.TheVariants.{Keep}
use Rattle.card.specs.declared.State.{State}
use Rattle.card.specs.declared.Source.{Source}
use Rattle.card.specs.declared.Sink.{Sink}
use Rattle.card.specs.declared.Open.{Open}
use Rattle.card.specs.declared.Open.TheVariants.{Nothing, Read, Write, Busy}
use Rattle.card.specs.declared.Core.{Core}
use Rattle.card.specs.declared.Card.{Card}
use Rattle.card.specs.Settings.{BLOCK}
use Rattle.card.specs.State.{open_of, writing, locking, sink_address, sink}
use Rattle.card.specs.Soundness.{unsound, off_write}
use Rattle.card.specs.Frame.{quiet}
use Rattle.card.specs.Data.{write_into, block_into, password_into}
use Rattle.card.specs.Step.{BLOCK_ROWS, applies, refusal, incoming, token_size, packet_size, lone_byte, other_block}
use Rattle.card_call.specs.Seen.{Seen, turned}
use Rattle.card_token.specs.declared.Arrived.TheVariants.{Packet}
use Rattle.card_token.specs.Tokens.{other_length, kind}
use Rattle.card_token.proofs.Tokens.{packet-long}
use Rattle.card_refuse.specs.Rows.{rows_of}
use Rattle.card.proofs.Facts.{facts-sound}
use Rattle.card_refuse.proofs.Passed.{passed, sound_record, sized}
use Rattle.card_state.specs.declared.Transfer.{Transfer}
use Rattle.card_block_in.specs.Enters.{Enters, payload_turned, packet_turned}

aligned : (o : Open) → off_write o ≡ false → (s : Sink) → o ≡ Write s → sink_address s % BLOCK ≡ 0
aligned o e s told = eqb-true (sink_address s % BLOCK) 0 (not-false _ (ap off_write (sym told) ∙ e))

-- the size that is left where the other is not
either : (a b : Bool) → not (a || b) ≡ false → b ≡ false → a ≡ true
either true b e k = refl
either false true e k = absurd (true≢false k)
either false false e k = absurd (true≢false e)

bounded : (locks : Bool) (n m : ℕ) → 1 ≤ n → n ≤ BLOCK → m ≡ cond locks n BLOCK + CHECK → (1 + CHECK ≤ m) × (m ≤ PAYLOAD + CHECK)
bounded true n m low high e = (omega arith, omega arith)
bounded false n m low high e = (omega arith, omega arith)

-- the rows do not apply
module _ (c : Core) (password : ℕ) (memory block : List ℕ) (closed : Bool)
    (spared : refusal BLOCK_ROWS (rows_of c password (length memory) (other_block c block) false closed) ≡ none)
    (o : Open) (told : o ≡ open_of c.bus.state) where
  row : (i : ℕ) → applies (rows_of c password (length memory) (other_block c block) false closed) (get_or BLOCK_ROWS i 0) ≡ false
  row = passed BLOCK_ROWS (rows_of c password (length memory) (other_block c block) false closed) spared

  sound : unsound c ≡ false
  unfolding applies
  sound = sound_record c password (row 0)

  module _ (packet : kind (incoming c.bus.mode o block) ≡ Packet) where
    -- behind its token
    sized_as : length (drop (token_size c.bus.mode) block) ≡ cond (locking o) c.length BLOCK + CHECK
    unfolding applies packet_size lone_byte
    sized_as =
        let m = c.bus.mode in
        let n = token_size m in
        let long = packet-long m (open_of c.bus.state) block (ap (λ (x : Open). kind (incoming m x block)) (sym told) ∙ packet) in
        let size = eqb-true (length block) _ (either _ _ (row 1) long) in
        length-drop n block ∙ omega (arith, size)
        ∙ ap (λ (x : Open). cond (locking x) c.length BLOCK + CHECK) (sym told)

    pub enters : Enters c o memory (drop (token_size c.bus.mode) block)
    unfolding applies
    enters =
        let facts = (facts-sound c sound).0 in
        let size = sized c (length memory) sound (row 2) in
        let bounds = bounded (locking o) c.length _ facts.size.low facts.size.high sized_as in
        record {
          stores = λ s to. record {
            size = size;
            aligned = aligned o (ap off_write told ∙ facts.transfer.aligned) s to;
            count = omega (arith, facts.transfer.count, size.blocks);
          };
          decodes = record { low = bounds.0; high = bounds.1 };
          whole = λ e. sized_as ∙ ap (λ (b : Bool). cond b c.length BLOCK + CHECK) e;
        }

-- ---- a transfer of 24 or 25

written : (card : Card) (right : Bool) (s memory : List ℕ) (multiple : Bool) (address : ℕ) (held : Bool)
    → turned card memory [] (write_into multiple address held right card.core s) ≡ payload_turned card (Write (sink multiple address held)) right s memory
unfolding block_into password_into
written card right s memory true address held = refl
written card right s memory false address held = refl

pub written_as : (card : Card) {to : Sink} (right : Bool) (s memory : List ℕ) {v : Seen} {t : Transfer} (u : Transfer) → t ≡ u → to ≡ sink u.multiple u.address u.held
    → v ≡ turned card memory [] (write_into t.multiple t.address t.held right card.core s) → v ≡ payload_turned card (Write to) right s memory
written_as card right s memory u e told h =
    h
    ∙ ap (λ (x : Transfer). turned card memory [] (write_into x.multiple x.address x.held right card.core s)) e
    ∙ written card right s memory u.multiple u.address u.held
    ∙ ap (λ (x : Sink). payload_turned card (Write x) right s memory) (sym told)

-- ---- no write is open

pub unwritten : (card : Card) {o : Open} (right : Bool) (s memory : List ℕ) {v : Seen}
    → (o ≡ Nothing) ⊎ (((x : Source) × (o ≡ Read x)) ⊎ ((x : State) × (o ≡ Busy x)))
    → v ≡ turned card memory [] (quiet card.core Keep) → v ≡ payload_turned card o right s memory
unfolding block_into password_into
unwritten card right s memory (inl e) h = h ∙ ap (λ (x : Open). payload_turned card x right s memory) (sym e)
unwritten card right s memory (inr (inl (x, e))) h = h ∙ ap (λ (y : Open). payload_turned card y right s memory) (sym e)
unwritten card right s memory (inr (inr (x, e))) h = h ∙ ap (λ (y : Open). payload_turned card y right s memory) (sym e)

-- ---- as the code has it, by o, or as the model has it, by q

pub same_rows : (c : Core) (password memory n : ℕ) {r : Rows} {o q : Open} {size writes : Bool} → o ≡ q → size ≡ other_length c.bus.mode o c.length n → writes ≡ writing o
    → r ≡ rows_of c password memory size false (not writes)
    → r ≡ rows_of c password memory (other_length c.bus.mode q c.length n) false (not (writing q))
same_rows c password memory n told size writes h =
    h
    ∙ ap₂ (λ (x y : Bool). rows_of c password memory x false (not y)) size writes
    ∙ ap (λ (x : Open). rows_of c password memory (other_length c.bus.mode x c.length n) false (not (writing x))) told

pub same-packet : (card : Card) (s memory : List ℕ) {v : Seen} {o q : Open} {a b : Bool} {m n : ℕ} → o ≡ q → a ≡ b → m ≡ n
    → v ≡ packet_turned card o a (drop m s) memory → v ≡ packet_turned card q b (drop n s) memory
same-packet card s memory {q = q} {a = a} {m = m} told same size h =
    h
    ∙ ap (λ (x : Open). packet_turned card x a (drop m s) memory) told
    ∙ ap₂ (λ (x : Bool) (k : ℕ). packet_turned card q x (drop k s) memory) same size
