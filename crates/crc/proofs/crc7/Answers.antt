-- `crc7` is the check of all its bytes: at the loop's head, the register run over what is left gives the whole check.
use mathlib.Core.Path.{◌≡◌, refl, sym, ◌∙◌}
use mathlib.Core.Bool.{Bool, false}
use mathlib.Core.List.{List, [], ◌∷◌, ◌++◌, append-nil}
use Prim.Native.Nat.{◌*◌}
use native.Mathlib.Omega.{arith}
use borrow.Author.Rules.{rules}
use lib.ListN.{get_or}
use Rattle.crc.specs.Bits.{bits, number, bits_of}
use Rattle.crc.specs.Crc.{crc, clear, poly7, crc7_of}
use Rattle.crc.proofs.Bits.{number_append}
use Rattle.crc.proofs.Words.{byte-fed, all-fed, run_up}
use Rattle.crc.proofs.crc7.Goals as goal

-- the polynomial with the register one place up in its byte
abbrev up7 : List Bool
up7 = poly7 ++ (false ∷ [])

pub loop-byte-init : goal.loop-byte-init
unfolding crc poly7 bits
loop-byte-init c = (omega arith, omega arith, run_up poly7 (clear poly7) _ refl (omega arith))

pub loop-byte-preserved : goal.loop-byte-preserved
unfolding poly7 bits
loop-byte-preserved c =
    let s = c.args.s.now in
    let at = c.loop-byte in
    let b = get_or s at.byte-index 0 in (
      omega arith,
      search rules,
      byte-fed 8 up7 s at.byte-index at.r b c.turn7-r.result (crc poly7 (bits_of s) ++ (false ∷ []))
          refl (omega arith) c.loop-byte-test.true (sym (append-nil (bits 8 b))) c.turn7-r.ensures at.invariant.2,
    )

pub returns : goal.returns
unfolding crc7_of number
returns c =
    let s = c.args.s.now in
    let at = c.loop-byte in
    let whole = crc poly7 (bits_of s) in
    let e : at.r ≡ number (whole ++ (false ∷ [])) =
    all-fed 8 up7 s at.byte-index at.r (whole ++ (false ∷ [])) at.invariant.1 c.loop-byte-test.false at.invariant.2 in
    let n : number (whole ++ (false ∷ [])) ≡ number whole * 2 = number_append whole (false ∷ []) ∙ omega arith in
    omega arith
