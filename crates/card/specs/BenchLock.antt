-- The readings of the lock (02, order 4): passwords, the locked card, force erase. The blocks have the form of 003's lock section, for
-- the password ABCD; their checks were worked out apart.
use Rattle.std.specs.Prelude.{Bool, true, false, List, [], ◌∷◌, ◌++◌, ℕ, ◌*◌, replicate}
use Rattle.crc.specs.Bits.{bits, bytes}
use Rattle.wire_packet.specs.Packet.{packet}
use Rattle.card.specs.declared.Settings.{Settings}
use Rattle.card.specs.declared.Password.{Password}
use Rattle.card.specs.Settings.{csd_bytes, csd_of}
use Rattle.card.specs.Lock.{password_of, no_password}
use Rattle.card.specs.Step.{power_up, block_in, World, world, line, fresh, start}
use Rattle.card.specs.Reading.{small, Reading, none, rsp, ◌shows◌, frame, quietly, taking, writing, damaging, overs, refusing, block, zeros, Example, on, from, cid_line, selected, send_status_call}

-- ---- cards

-- 4 blocks, protected or not
abbrev pub protected : Bool → Bool → Settings
protected permanent temporary = record {
  blocks = 4;
  polls = 0;
  cid = record { mid = 0; oid = 0; pnm = 0; prv = 0; psn = 0; mdt = 0 };
  permanent = permanent;
  temporary = temporary;
}

-- after a power-up with a password; the first byte of memory and the last are not zero
abbrev pub powered : Settings → Password → World
powered s p = world (start s p) (0x5A ∷ (replicate 2046 0 ++ (0x5A ∷ [])))

-- "ABCD", and the card that has it
abbrev pub ABCD : Password
ABCD = password_of (0x41 ∷ 0x42 ∷ 0x43 ∷ 0x44 ∷ [])

-- ---- blocks, with their checks

-- so many bytes of a number, high byte first
abbrev pub given : ℕ → ℕ → List ℕ
given k n = bytes k (bits (8 * k) n)

abbrev pub set-password : List ℕ
set-password = given 8 0x010441424344F79C

abbrev pub set_and_lock : List ℕ
set_and_lock = given 8 0x050441424344F13D

abbrev pub unlock : List ℕ
unlock = given 8 0x000441424344B23C

abbrev pub clear-password : List ℕ
clear-password = given 8 0x020441424344397C

abbrev pub lock : List ℕ
lock = given 8 0x040441424344B49D

-- by XY, behind the old one
abbrev pub replace : List ℕ
replace = given 10 0x0106414243445859E44A

abbrev pub force_erase : List ℕ
force_erase = given 3 0x088108

-- ---- lines

-- 42 in tran on a card that is not locked, and on one that is; a block is answered 010 whatever becomes of it
abbrev pub on-unlocked : List ℕ → Reading → List Reading → List Reading
on-unlocked s after rest = 0x6A0000000051 shows 0x2A0000090063 ∷ writing s ∷ overs ∷ after ∷ rest

abbrev pub on-locked : List ℕ → Reading → List Reading → List Reading
on-locked s after rest = 0x6A0000000051 shows 0x2A020009006F ∷ writing s ∷ overs ∷ after ∷ rest

-- 13 afterwards: unlocked or locked, with LOCK_UNLOCK_FAILED or without
abbrev pub unlocked : Reading
unlocked = send_status_call

abbrev pub locked : Reading
locked = 0x4D0001000053 shows 0x0D0200090033

abbrev pub unlocked-failed : Reading
unlocked-failed = 0x4D0001000053 shows 0x0D0100090039

abbrev pub locked-failed : Reading
locked-failed = 0x4D0001000053 shows 0x0D0300090035

-- 16 with 6, 8, 5, 1 and 512
abbrev pub length_6 : Reading
length_6 = 0x500000000655 shows 0x10000009000B

abbrev pub length_512 : Reading
length_512 = 0x500000020015 shows 0x10000009000B

abbrev pub locked-length : ℕ → Reading
locked-length f = f shows 0x100200090007

-- the locked card selected: all eight commands of a bring-up run
abbrev pub selected-locked : List Reading → List Reading
selected-locked rest =
    0x770000000065 shows 0x37020001208F
    ∷ 0x6900FF800085 shows 0x3F80FF8000FF
    ∷ cid_line
    ∷ 0x430000000021 shows 0x0300010500A5
    ∷ 0x4700010000DD shows 0x070200070079 ∷ rest

-- the CSD of stby, behind 7 to another card and before 7 to this one
abbrev pub csd-shows : Settings → List Reading → List Reading
csd-shows s rest =
    quietly 0x470000000083
    ∷ record { call = frame 0x4900010000F1; prints = rsp (0x3F ∷ csd_bytes (csd_of s)) }
    ∷ 0x4700010000DD shows 0x070000070075 ∷ rest

-- ---- the table's part

abbrev pub lock_examples : List Example
lock_examples =
    -- set, lock; a locked read is illegal, and so is a write; a wrong password shows bit 24 once, in prg already; unlock, read, clear; no lock without one
    on small (selected
    (length_6
    ∷ on-unlocked set-password unlocked
    (on-unlocked lock locked
    (quietly 0x510000000055
    ∷ 0x4D0001000053 shows 0x0D02400900FF
    ∷ quietly 0x58000000006F
    ∷ 0x4D0001000053 shows 0x0D02400900FF
    ∷ 0x6A0000000051 shows 0x2A020009006F
    ∷ writing (given 8 0x000441424345A21D)
    ∷ 0x4D0001000053 shows 0x0D03000E0057
    ∷ 0x4D0001000053 shows 0x0D02000E0051
    ∷ overs
    ∷ on-locked unlock unlocked
    (0x510000000055 shows 0x110000090067
    ∷ taking (zeros 6)
    ∷ on-unlocked clear-password unlocked (on-unlocked lock unlocked-failed []))))))
    -- a prefix of the password, and its first byte with others behind it, do not unlock
    ∷ on small (selected
    (length_6 ∷ on-unlocked set_and_lock locked (on-locked (given 8 0x000341424344D5E8) locked-failed (on-locked (given 8 0x000441000000912E) locked-failed []))))
    -- replaced while locked: the old password no longer locks, the new one does
    ∷ on small (selected
    (length_6
    ∷ on-unlocked set_and_lock locked
    (locked-length 0x5000000008A9
    ∷ on-locked replace unlocked (length_6 ∷ on-unlocked lock unlocked-failed (on-unlocked (given 8 0x0402585900007285) locked [])))))
    -- replacing needs the old one on an unlocked card too
    ∷ on small (selected
    (length_6
    ∷ on-unlocked set-password unlocked
    (0x5000000008A9 shows 0x10000009000B
    ∷ on-unlocked (given 10 0x0102585900000000E7A8) unlocked-failed (length_6 ∷ on-unlocked lock locked []))))
    -- a power-up with a password starts locked, command 0 changes neither, and the application commands of a bring-up run
    ∷ from (powered small ABCD) (selected-locked
    (quietly 0x400000000095
    ∷ 0x770000000065 shows 0x37020001208F
    ∷ 0x6900FF800085 shows 0x3F80FF8000FF
    ∷ cid_line
    ∷ 0x430000000021 shows 0x030002050047 ∷ []))
    -- A42 runs on a locked card, and A22 does not; 42 after 55 opens nothing
    ∷ from (powered small ABCD) (selected-locked
    (0x77000100003B shows 0x37020009203F
    ∷ 0x6A0000000051 shows 0x2A020009200B
    ∷ refusing (block_in block) 5
    ∷ 0x77000100003B shows 0x37020009203F
    ∷ quietly 0x560000000043
    ∷ 0x4D0001000053 shows 0x0D02400900FF ∷ []))
    -- force erase, with reserved bits: blocks, password, marks and temporary protection are gone, from the CSD too; then it fails, unlocked
    ∷ from (powered (protected false true) ABCD) (selected-locked
    (locked-length 0x50000000012B
    ∷ on-locked (given 3 0x189339) unlocked
    (csd-shows (protected false false)
    (0x510000000055 shows 0x110000090067
    ∷ taking (zeros 1)
    ∷ 0x51000007FFC5 shows 0x110000090067
    ∷ taking (zeros 1)
    ∷ length_512
    ∷ 0x58000000006F shows 0x18000009005D
    ∷ 0x4C0000000061 shows 0x0C00000D000B
    ∷ overs
    ∷ 0x50000000012B shows 0x10000009000B
    ∷ on-unlocked force_erase unlocked-failed
    (length_6 ∷ on-unlocked lock unlocked-failed [])))))
    ∷ on small (selected
    (0x5C00000000CD shows 0x1C00000900FF
    ∷ overs
    ∷ length_6
    ∷ on-unlocked set_and_lock locked
    (locked-length 0x50000000012B
    ∷ on-locked force_erase unlocked (0x5E0000000015 shows 0x1E0000090027 ∷ taking (packet (0 ∷ 0 ∷ 0 ∷ 0 ∷ [])) ∷ []))))
    -- on a permanently protected card it fails, and so does 1Fh anywhere; a password may be cleared there
    ∷ from (powered (protected true false) ABCD) (selected-locked
    (locked-length 0x50000000012B
    ∷ on-locked force_erase locked-failed
    (on-locked (given 3 0x1FE3DE) locked-failed (locked-length 0x500000000655 ∷ on-locked clear-password unlocked []))))
    -- too short for its fields: one byte, and five where six are needed
    ∷ from (powered small ABCD) (selected-locked
    (locked-length 0x50000000012B
    ∷ on-locked (packet (0 ∷ [])) locked-failed
    (locked-length 0x500000000563 ∷ on-locked (packet (0 ∷ 4 ∷ 0x41 ∷ 0x42 ∷ 0x43 ∷ [])) locked-failed [])))
    -- a damaged block is 101 and back in tran, and does not unlock; the size is the set length and two, for 42 alone
    ∷ from (powered small ABCD) (selected-locked
    (locked-length 0x500000000655
    ∷ 0x6A0000000051 shows 0x2A020009006F
    ∷ refusing (block_in block) 1
    ∷ damaging unlock
    ∷ locked
    ∷ refusing (block_in unlock) 1
    ∷ refusing (block_in block) 5
    ∷ on-locked unlock unlocked []))
    -- A22's count stays, and pending erase marks go
    ∷ on small (selected
    (0x58000000006F shows 0x18000009005D
    ∷ writing block
    ∷ overs
    ∷ length_6
    ∷ 0x6000000000DF shows 0x2000000900ED
    ∷ 0x6A0000000051 shows 0x2A0000290087
    ∷ writing set-password
    ∷ overs
    ∷ 0x6600000000A5 shows 0x2610000900F7
    ∷ 0x77000100003B shows 0x370000092033
    ∷ 0x560000000043 shows 0x160000092015
    ∷ taking (packet (0 ∷ 0 ∷ 0 ∷ 1 ∷ [])) ∷ []))
    -- row 6: a password of 17 bytes; bytes behind the length are not looked at
    ∷ on small
    (refusing (power_up small (record { bytes = replicate 16 0; length = 17 })) 6
    ∷ record { call = power_up small (record { bytes = replicate 16 0x41; length = 0 }); prints = none }
    ∷ selected [])
    -- row 2, before row 1: locked with no password, and a length of 17
    ∷ from (world (record { core = fresh small true; password = no_password; line = line false }) (replicate 2048 0)) (refusing (block_in []) 2 ∷ [])
    ∷ from (world (record { core = fresh small false; password = record { bytes = replicate 16 0; length = 17 }; line = line false }) (replicate 2048 0))
    (refusing (frame 0x400000000095) 2 ∷ [])
    ∷ []
