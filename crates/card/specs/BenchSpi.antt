-- The readings of SPI mode (02, order 5): responses as bytes, tokens, checks on and off, what is allowed where.
use Rattle.std.specs.Prelude.{true, List, [], ◌∷◌, ◌++◌, ℕ, replicate}
use Rattle.wire_packet.specs.Packet.{packet}
use Rattle.card.specs.Settings.{cid_bytes, csd_bytes, csd_of}
use Rattle.card.specs.Step.{Call, power_up, command_frame, block_in, take_block, busy_over}
use Rattle.card.specs.Reading.{small, polled, Reading, none, rsp, blk, six, frame, quietly, overs, refusing, block, zeros, Example, on, from}
use Rattle.card.specs.BenchLock.{powered, ABCD}

-- ---- lines

-- chip select low
abbrev pub low : ℕ → Call
low f = command_frame (six f) true (replicate 17 0)

infix 70 ◌says◌
abbrev pub ◌says◌ : Call → List ℕ → Reading
c says s = record { call = c; prints = rsp s }

-- a frame that is answered by one byte
infix 70 ◌bytes◌
abbrev pub ◌bytes◌ : ℕ → ℕ → Reading
f bytes n = frame f says (n ∷ [])

abbrev pub silently : Call → Reading
silently c = record { call = c; prints = none }

abbrev pub taking : List ℕ → Reading
taking s = record { call = take_block (replicate 515 0); prints = blk (0xFE ∷ s) }

-- a block of zeros, whose check is zero, behind a token; and its first bit altered
abbrev pub behind : ℕ → List ℕ
behind token = token ∷ replicate 514 0

abbrev pub damaged : ℕ → List ℕ
damaged token = token ∷ 128 ∷ replicate 513 0

-- the stop token
abbrev pub stop-tran : Call
stop-tran = block_in (0xFD ∷ [])

-- 13, by both bytes of its R2
abbrev pub status : ℕ → ℕ → Reading
status a b = frame 0x4D000000000D says (a ∷ b ∷ [])

-- SPI mode chosen and the card out of idle: 0 with chip select low, 55, A41
abbrev pub spi-ready : List Reading → List Reading
spi-ready rest = low 0x400000000095 says (1 ∷ []) ∷ 0x770000000065 bytes 1 ∷ 0x6900000000E5 bytes 0 ∷ rest

-- 59 with 1
abbrev pub checks_on : Reading
checks_on = 0x7B0000000183 bytes 0

-- ---- the table

abbrev pub bring_up : List Reading
bring_up =
    low 0x400000000095 says (1 ∷ [])
    -- 8: echoed; another voltage
    ∷ frame 0x48000001AA87 says (1 ∷ 0 ∷ 0 ∷ 1 ∷ 0xAA ∷ [])
    ∷ frame 0x48000002AABD says (1 ∷ 0 ∷ 0 ∷ 0 ∷ 0xAA ∷ [])
    -- 58: bit 31 is clear in idle
    ∷ frame 0x7A00000000FD says (1 ∷ 0 ∷ 0xFF ∷ 0x80 ∷ 0 ∷ [])
    -- not allowed in idle
    ∷ 0x510000000055 bytes 5
    -- A41 looks at no window: a poll, and out of idle
    ∷ 0x770000000065 bytes 1
    ∷ 0x6900000000E5 bytes 1
    ∷ 0x770000000065 bytes 1
    ∷ 0x6900000000E5 bytes 0
    ∷ frame 0x7A00000000FD says (0 ∷ 0x80 ∷ 0xFF ∷ 0x80 ∷ 0 ∷ [])
    -- a wrong CRC7 is passed over until 59, but that of 8; a wrong end bit is not
    ∷ frame 0x4D000000000F says (0 ∷ 0 ∷ [])
    ∷ []

unfoldable pub spi_examples : List Example
spi_examples =
    on polled
    (bring_up ++ (0x48000001AA89 bytes 8
    ∷ checks_on
    -- 0 is judged, turns the checks off and leaves the mode, chip select high or low
    ∷ 0x400000000097 bytes 8
    ∷ 0x400000000095 bytes 1
    ∷ frame 0x7A00000000FF says (1 ∷ 0 ∷ 0xFF ∷ 0x80 ∷ 0 ∷ []) ∷ []))
    -- a write and a read with tokens; a block behind a wrong token, and blocks of other sizes
    ∷ on small (spi-ready
    (0x580000020043 bytes 0
    ∷ silently (block_in (behind 0xFC))
    ∷ refusing (block_in (replicate 514 0)) 1
    ∷ refusing stop-tran 1
    ∷ block_in (0xFE ∷ block) says (5 ∷ [])
    -- busy: 13 runs, 17 does not
    ∷ status 0 0
    ∷ 0x510000020079 bytes 4
    ∷ overs
    ∷ 0x510000020079 bytes 0
    -- an open transfer
    ∷ 0x510000020079 bytes 4
    ∷ refusing (take_block (replicate 514 0)) 4
    ∷ taking block
    ∷ refusing (take_block (replicate 515 0)) 5
    ∷ refusing busy_over 5 ∷ []))
    -- the same damaged frame with checks on and off, in tran; another start bit; the bits that are held stay
    ∷ on small (spi-ready
    (checks_on
    ∷ 0x51000002007B bytes 8
    ∷ silently (frame 0xD10000020079)
    ∷ 0x7B0000000091 bytes 0
    ∷ 0x510000020078 bytes 8
    ∷ 0x51000002007B bytes 0 ∷ []))
    -- a stop token; and one that ends a held 25, whose damaged block was answered 101
    ∷ on small (spi-ready
    (checks_on
    ∷ 0x590000000003 bytes 0
    ∷ block_in (behind 0xFC) says (5 ∷ [])
    ∷ silently (block_in (0xFB ∷ []))
    ∷ silently stop-tran
    ∷ overs
    ∷ 0x590000000003 bytes 0
    ∷ block_in (damaged 0xFC) says (0x0B ∷ [])
    ∷ silently (block_in (behind 0xFC))
    ∷ silently stop-tran
    ∷ status 0 0
    ∷ overs
    -- with checks off it is stored
    ∷ 0x7B0000000091 bytes 0
    ∷ 0x58000000006F bytes 0
    ∷ block_in (damaged 0xFE) says (5 ∷ []) ∷ []))
    -- CID, CSD and the SD status as blocks; the RCA is not compared; 7 and 15 are not there
    ∷ on small (spi-ready
    (0x4A000000001B bytes 0
    ∷ taking (packet (cid_bytes small))
    ∷ 0x4900010000F1 bytes 0
    ∷ taking (packet (csd_bytes (csd_of small)))
    ∷ 0x770000000065 bytes 0
    ∷ status 0 0
    ∷ taking (zeros 64)
    ∷ 0x470000000083 bytes 4
    ∷ 0x4F000100008B bytes 4 ∷ []))
    -- 24 to a protected group: R1 does not carry bit 26, so 16 leaves it for 13; 38 without 32
    ∷ on small (spi-ready
    (0x5C00000000CD bytes 0
    ∷ overs
    ∷ 0x58000000006F bytes 0
    ∷ refusing (block_in (behind 0xFE)) 5
    ∷ 0x500000020015 bytes 0
    ∷ 0x6600000000A5 bytes 0x10
    ∷ status 0 0x20
    ∷ status 0 0 ∷ []))
    -- the R1 of the 0 that chooses SPI mode shows what was held
    ∷ on small (quietly 0x400000000094 ∷ low 0x400000000095 says (9 ∷ []) ∷ 0x770000000065 bytes 1 ∷ [])
    ∷ on small (quietly 0x510000000055 ∷ low 0x400000000095 says (5 ∷ []) ∷ 0x770000000065 bytes 1 ∷ [])
    -- a locked card; power-up leaves SPI mode
    ∷ from (powered small ABCD) (spi-ready
    (0x510000000055 bytes 4
    ∷ status 0 1
    ∷ record { call = power_up small ABCD; prints = none }
    ∷ quietly 0x400000000095 ∷ []))
    ∷ []
