-- The bench readings of 01, and further ones that tell near definitions apart, as one table.
use Rattle.std.specs.Prelude.{◌≡◌, Bool, true, false, ◌&&◌, List, [], ◌∷◌, ◌++◌, ℕ, replicate, Some}
use Rattle.wire_packet.specs.Packet.{packet}
use Rattle.card.specs.declared.State.{State}
use Rattle.card.specs.declared.State.TheVariants.{Stby, Tran}
use Rattle.card.specs.Settings.{capacity}
use Rattle.card.specs.Record.{with_erase, with_state, with_app, with_rca}
use Rattle.card.specs.Lock.{no_password}
use Rattle.card.specs.Step.{power_up, command_frame, block_in, take_block, busy_over, World, world, line, fresh, start, unpowered}
use Rattle.card.specs.Reading.{sized, bench, small, polled, Reading, none, ◌shows◌, six, frame, quietly, taking, taking-nothing, writing, damaging, overs, refusing, block, zeros, Example, on, from, decodes, holds, cid_line, selected, send_status_call}
use Rattle.card.specs.BenchLock.{lock_examples}
use Rattle.card.specs.BenchSpi.{spi_examples}

-- ---- the table

-- 01's nine lines
abbrev pub nine : List Reading
nine =
    quietly 0x400000000095
    ∷ 0x48000001AA87 shows 0x08000001AA13
    ∷ quietly 0x400000000094
    ∷ 0x770000000065 shows 0x370080012009
    ∷ quietly 0x510000000055
    ∷ 0x770000000065 shows 0x37004001204F
    ∷ quietly 0x690000000000
    ∷ 0x770000000065 shows 0x370080012009
    ∷ 0x6900FF800085 shows 0x3F80FF8000FF ∷ []

-- a block at 200h; 32 at 0 and 33 at 200h with lines behind each; 38 and what it says; the block that is read at 200h then
abbrev pub erasing : List Reading → List Reading → List Reading → List ℕ → List Reading
erasing first second last left =
    0x580000020043 shows 0x18000009005D
    ∷ writing block
    ∷ overs
    ∷ 0x6000000000DF shows 0x2000000900ED
    ∷ (first ++ (0x61000002009F shows 0x210000090081 ∷ (second ++ (last ++ (0x510000020079 shows 0x110000090067 ∷ taking left ∷ [])))))

-- 38 with both
abbrev pub erases : List Reading
erases = 0x6600000000A5 shows 0x260000090097 ∷ overs ∷ []

-- 38 without both
abbrev pub out_of_sequence : List Reading
out_of_sequence = 0x6600000000A5 shows 0x2610000900F7 ∷ []

-- a sound card that no history leads to: erase marks outside tran, or after 55
abbrev pub erase-pending : State → Bool → World
erase-pending s app =
    let c = with_erase (with_app (with_state (with_rca (fresh small false) 1) s) app) (record { first = Some 0; second = Some 0x200 }) in
    world (record { core = c; password = no_password; line = line false }) (replicate (capacity small) 0)

unfoldable pub examples : List Example
examples =
    on bench nine
    ∷ decodes 17 0x110000090067 4 true
    -- a 512 read at 32,256 runs, at 32,768 is OUT_OF_RANGE, at 1 ADDRESS_ERROR; length 511 at 1 runs
    ∷ on bench (selected (0x5100007E00DD shows 0x110000090067 ∷ taking (zeros 512) ∷ []))
    ∷ on bench (selected (0x5100008000F3 shows 0x118000090051 ∷ []))
    ∷ on bench (selected (0x510000000147 shows 0x1140000900F5 ∷ []))
    ∷ on bench (selected (0x50000001FFDD shows 0x10000009000B ∷ 0x510000000147 shows 0x110000090067 ∷ taking (zeros 511) ∷ []))
    -- group 1 alone marked: 30 at 0 shows 2, at 16,384 shows 1
    ∷ on bench (selected
    (0x5C0000400017 shows 0x1C00000900FF
    ∷ overs
    ∷ 0x5E0000000015 shows 0x1E0000090027
    ∷ taking (packet (0 ∷ 0 ∷ 0 ∷ 2 ∷ [])) ∷ []))
    ∷ on bench (selected
    (0x5C0000400017 shows 0x1C00000900FF
    ∷ overs
    ∷ 0x5E00004000CF shows 0x1E0000090027
    ∷ taking (packet (0 ∷ 0 ∷ 0 ∷ 1 ∷ [])) ∷ []))
    -- R6 carries no clear-by-read bit that is kept: OUT_OF_RANGE of a take shows in the status after it
    ∷ on small (selected
    (0x520000060095 shows 0x1200000900D3
    ∷ taking (zeros 512)
    ∷ taking-nothing
    ∷ quietly 0x470000000083
    ∷ 0x430000000021 shows 0x03000207006B
    ∷ 0x4D00020000B1 shows 0x0D80000700CD ∷ []))
    -- the block of the second address is erased too
    ∷ on small (selected
    (0x580000020043 shows 0x18000009005D
    ∷ writing block
    ∷ overs
    ∷ 0x6000000000DF shows 0x2000000900ED
    ∷ 0x61000002009F shows 0x210000090081
    ∷ 0x6600000000A5 shows 0x260000090097
    ∷ overs
    ∷ 0x510000020079 shows 0x110000090067
    ∷ taking (zeros 512) ∷ []))
    -- a write is read back, and an erase before it leaves it
    ∷ on small (selected
    (0x580000020043 shows 0x18000009005D
    ∷ writing block
    ∷ overs
    ∷ 0x6000000000DF shows 0x2000000900ED
    ∷ 0x61000001FF57 shows 0x210000090081
    ∷ 0x6600000000A5 shows 0x260000090097
    ∷ overs
    ∷ 0x510000020079 shows 0x110000090067
    ∷ taking block ∷ []))
    -- command 0 does not rewind the published address
    ∷ on small (selected
    (quietly 0x400000000095
    ∷ 0x770000000065 shows 0x370000012083
    ∷ 0x6900FF800085 shows 0x3F80FF8000FF
    ∷ cid_line
    ∷ 0x430000000021 shows 0x030002050047 ∷ []))
    -- A22 counts the 010 answers since the write command
    ∷ on small (selected
    (0x590000000003 shows 0x190000090031
    ∷ writing block
    ∷ writing block
    ∷ damaging block
    ∷ 0x4C0000000061 shows 0x0C00000D000B
    ∷ overs
    ∷ 0x77000100003B shows 0x370000092033
    ∷ 0x560000000043 shows 0x160000092015
    ∷ taking (packet (0 ∷ 0 ∷ 0 ∷ 2 ∷ [])) ∷ []))
    -- an erase skips a protected group and says so; a write there is refused
    ∷ on small (selected
    (0x5C00000000CD shows 0x1C00000900FF
    ∷ overs
    ∷ 0x58000000006F shows 0x180400090045
    ∷ 0x6000000000DF shows 0x2000000900ED
    ∷ 0x61000002009F shows 0x210000090081
    ∷ 0x6600000000A5 shows 0x260000890031
    ∷ overs ∷ []))
    -- 33 without 32, 38 without both, an address below the first, and another command between
    ∷ on small (selected
    (0x6100000000B3 shows 0x2110000900E1
    ∷ 0x6600000000A5 shows 0x2610000900F7
    ∷ 0x6000000200F3 shows 0x2000000900ED
    ∷ 0x6100000000B3 shows 0x210000090081
    ∷ 0x6600000000A5 shows 0x2608000900A7
    ∷ 0x6000000200F3 shows 0x2000000900ED
    ∷ 0x500000020015 shows 0x1000002900EF ∷ []))
    -- 13 between them (02, order 1): after 33, and after both
    ∷ on small (selected (erasing [] (send_status_call ∷ []) erases (zeros 512)))
    ∷ on small (selected (erasing (send_status_call ∷ []) (send_status_call ∷ []) erases (zeros 512)))
    -- one for another card never ran
    ∷ on small (selected (erasing [] (quietly 0x4D00020000B1 ∷ []) erases (zeros 512)))
    -- 55 drops the marks; A13, of the same index, is behind it
    ∷ on small (selected
    (erasing [] (0x77000100003B shows 0x3700002920D7 ∷ 0x4D000000000D shows 0x0D000009205B ∷ taking (zeros 64) ∷ []) out_of_sequence block))
    -- and would drop them itself
    ∷ from (erase-pending Tran true) (0x4D000000000D shows 0x0D00002920BF ∷ taking (zeros 64) ∷ out_of_sequence)
    -- 13 leaves them outside tran too; 7 does not
    ∷ from (erase-pending Stby false) (0x4D0001000053 shows 0x0D00000700FB ∷ 0x4700010000DD shows 0x070000270091 ∷ out_of_sequence)
    -- ERASE_RESET that was kept is shown by 13, once
    ∷ on small (selected
    (0x6000000000DF shows 0x2000000900ED
    ∷ quietly 0x470000000083
    ∷ 0x4D0001000053 shows 0x0D000027001F
    ∷ 0x4D0001000053 shows 0x0D00000700FB ∷ []))
    -- row 1: a frame that is not 6 bytes, a block that is not 514
    ∷ on small (refusing (command_frame (0x40 ∷ []) false (replicate 17 0)) 1 ∷ refusing (block_in (replicate 513 0)) 1 ∷ [])
    -- row 2: an unsound record, before row 3; row 1 before it for a frame, and behind it for a block
    ∷ from (world unpowered (0 ∷ []))
    (refusing (frame 0x400000000095) 2
    ∷ refusing (block_in []) 2
    ∷ refusing (take_block (replicate 514 0)) 2
    ∷ refusing busy_over 2
    ∷ refusing (command_frame [] false []) 1 ∷ [])
    -- row 3: memory of another size, at a power-up too
    ∷ from (world (start small no_password) (replicate 2047 0))
    (refusing (frame 0x400000000095) 3
    ∷ refusing (take_block []) 3
    ∷ refusing (block_in block) 3
    ∷ refusing busy_over 3
    ∷ refusing (power_up small no_password) 3 ∷ [])
    -- row 4: a buffer under 17 bytes, and one under 514
    ∷ on small (refusing (command_frame (six 0x400000000095) false (replicate 16 0)) 4 ∷ refusing (take_block (replicate 513 0)) 4 ∷ [])
    -- row 5: blocks and takes outside their states
    ∷ on small (selected
    (refusing (take_block (replicate 514 0)) 5
    ∷ refusing (block_in block) 5
    ∷ refusing busy_over 5 ∷ []))
    -- row 6: 3 blocks, which no pair gives, and 16 polls; and row 3 before it
    ∷ from (world unpowered (replicate 1536 0)) (refusing (power_up (sized 3 0) no_password) 6 ∷ refusing (power_up (sized 2 0) no_password) 3 ∷ [])
    ∷ on small (refusing (power_up (sized 4 16) no_password) 6 ∷ record { call = power_up small no_password; prints = none } ∷ [])
    -- an illegal command clears the application mark, so A41 is not in the table
    ∷ on
    small
    (0x770000000065 shows 0x370000012083
    ∷ quietly 0x510000000055
    ∷ quietly 0x6900FF800085 ∷ 0x770000000065 shows 0x37004001204F ∷ [])
    -- a wrong start bit is no check error
    ∷ on small (quietly 0xC00000000095 ∷ 0x770000000065 shows 0x370000012083 ∷ [])
    -- a window with no bit of FF8000h ends in ina, where nothing is heard
    ∷ on small (0x770000000065 shows 0x370000012083 ∷ quietly 0x6900007FFF89 ∷ quietly 0x400000000095 ∷ [])
    -- a query uses up no poll
    ∷ on polled
    (0x770000000065 shows 0x370000012083
    ∷ 0x6900000000E5 shows 0x3F00FF8000FF
    ∷ 0x770000000065 shows 0x370000012083
    ∷ 0x6900FF800085 shows 0x3F00FF8000FF
    ∷ 0x770000000065 shows 0x370000012083
    ∷ 0x6900FF800085 shows 0x3F80FF8000FF ∷ [])
    ∷ (lock_examples ++ spi_examples)

unfoldable pub every : List Example → Bool
every [] = true
every (x ∷ xs) = holds x && every xs

abbrev pub Readings : Type 0
Readings = every examples ≡ true
