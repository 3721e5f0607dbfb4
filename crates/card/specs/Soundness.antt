-- Unsound records (01, "Settings"): the list in 01's order. What the types make impossible is not here; docs/DECISIONS.md names it. Every
-- condition is one of both bus modes, but for those on bus states and on the RCA, which are SD mode's (02, order 5).
use Rattle.std.specs.Prelude.{Bool, true, false, cond, not, ◌&&◌, ◌||◌, List, [], ◌∷◌, ℕ, ◌+◌, ◌/◌, ◌%◌, ◌^◌, eqb, leb, ltb, get_or, drop, None, Option, Some}
use Rattle.reg_csd.specs.Csd.{csd_values}
use Rattle.card.specs.declared.Open.{Open}
use Rattle.card.specs.declared.Open.TheVariants.{Nothing, Read, Write, Busy}
use Rattle.card.specs.declared.Sink.{Sink}
use Rattle.card.specs.declared.Sink.TheVariants.{Single, Multiple, LockUnlock}
use Rattle.card.specs.declared.Core.{Core}
use Rattle.card.specs.Settings.{BLOCK, PASSWORD, capacity, groups, allowed, csd_of}
use Rattle.card.specs.State.{ready, ident, stby, ina, number, in_spi, open_of, transfer_address, sink_address}
use Rattle.card.specs.Checks.{outside, off_block}

-- two lists of numbers are the same
unfoldable pub equal : List ℕ → List ℕ → Bool
equal [] [] = true
equal [] (y ∷ ys) = false
equal (x ∷ xs) [] = false
equal (x ∷ xs) (y ∷ ys) = eqb x y && equal xs ys

-- any setting out of range; the CSD is the settings in the standard's form
abbrev pub bad_settings : Core → Bool
bad_settings c = not (allowed c.settings && equal (csd_values c.csd) (csd_values (csd_of c.settings)))

-- a write's address is not a multiple of 512
abbrev pub off_write : Open → Bool
off_write Nothing = false
off_write (Read s) = false
off_write (Write s) = off_block (sink_address s)
off_write (Busy s) = false

-- the blocks below a write transfer's address, or n elsewhere: the most that A22 can count; 42's has no address
abbrev pub sink_most : Sink → ℕ → ℕ
sink_most (Single address held) n = address / BLOCK
sink_most (Multiple address held) n = address / BLOCK
sink_most LockUnlock n = n

abbrev pub written_most : Open → ℕ → ℕ
written_most Nothing n = n
written_most (Read s) n = n
written_most (Write s) n = sink_most s n
written_most (Busy s) n = n

abbrev pub mark_outside : ℕ → Option ℕ → Bool
mark_outside top None = false
mark_outside top (Some a) = outside top a

-- in SD mode: RCA nonzero in idle, ready, ident or zero in stby..dis; free in ina
unfoldable pub bad_rca : Bool → ℕ → ℕ → Bool
bad_rca spi state rca = cond spi false (cond (eqb state ina) false (cond (leb stby state) (eqb rca 0) (not (eqb rca 0))))

-- some byte is not zero
unfoldable pub any_byte : List ℕ → Bool
any_byte [] = false
any_byte (b ∷ bs) = not (eqb b 0) || any_byte bs

-- a mark of a group or of one behind it: in its byte from its place up, or in a later byte
unfoldable pub marked_from : List ℕ → ℕ → Bool
marked_from marks group = not (eqb (get_or marks (group / 8) 0 / 2 ^ (group % 8)) 0) || any_byte (drop (group / 8 + 1) marks)

-- in SD mode: the application mark in ready, ident or ina
unfoldable pub bad_app : Bool → ℕ → Bool → Bool
bad_app spi state app = cond spi false (app && (eqb state ready || (eqb state ident || eqb state ina)))

-- the list
unfoldable pub unsound_tests : Core → List Bool
unsound_tests c =
    let o = open_of c.bus.state in
    let spi = in_spi c.bus.mode in
    bad_settings c
    ∷ ltb c.settings.polls c.bus.polls
    ∷ not (leb 1 c.length && leb c.length BLOCK)
    ∷ ltb (capacity c.settings) (transfer_address o)
    ∷ off_write o
    ∷ ltb c.settings.blocks c.written
    ∷ ltb (written_most o c.settings.blocks) c.written
    ∷ mark_outside (capacity c.settings) c.erase.first
    ∷ mark_outside (capacity c.settings) c.erase.second
    ∷ bad_rca spi (number c.bus.state) c.bus.rca
    ∷ marked_from c.marks (groups c.settings)
    ∷ bad_app spi (number c.bus.state) c.bus.app ∷ []

unfoldable pub any_of : List Bool → Bool
any_of [] = false
any_of (b ∷ bs) = b || any_of bs

unfoldable pub unsound : Core → Bool
unsound c = any_of (unsound_tests c)

-- of the password: locked with none; a length over 16
unfoldable pub bad_password : Bool → ℕ → Bool
bad_password locked length = (locked && eqb length 0) || ltb PASSWORD length
