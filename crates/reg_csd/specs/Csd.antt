-- CSD 1.0, high bit first, as 01 lists it: structure to format, CRC7, 1.
use Rattle.std.specs.Prelude.{List, [], ◌∷◌, ℕ}
use Rattle.crc.specs.Bits.{digit}
use Rattle.codec.specs.Layout.{Slot, field, reserved}
use Rattle.codec.specs.Format.{Format, crc7_from}
use Rattle.reg_csd.specs.declared.Csd.{Csd}

abbrev pub csd_slots : List Slot
csd_slots =
    field 2  -- CSD_STRUCTURE
    ∷ reserved 6
    ∷ field 8  -- TAAC
    ∷ field 8  -- NSAC
    ∷ field 8  -- TRAN_SPEED
    ∷ field 12  -- CCC
    ∷ field 4  -- READ_BL_LEN
    ∷ field 1  -- READ_BL_PARTIAL
    ∷ field 1  -- WRITE_BLK_MISALIGN
    ∷ field 1  -- READ_BLK_MISALIGN
    ∷ field 1  -- DSR_IMP
    ∷ reserved 2
    ∷ field 12  -- C_SIZE
    ∷ field 3  -- VDD_R_CURR_MIN
    ∷ field 3  -- VDD_R_CURR_MAX
    ∷ field 3  -- VDD_W_CURR_MIN
    ∷ field 3  -- VDD_W_CURR_MAX
    ∷ field 3  -- C_SIZE_MULT
    ∷ field 1  -- ERASE_BLK_EN
    ∷ field 7  -- SECTOR_SIZE
    ∷ field 7  -- WP_GRP_SIZE
    ∷ field 1  -- WP_GRP_ENABLE
    ∷ reserved 2
    ∷ field 3  -- R2W_FACTOR
    ∷ field 4  -- WRITE_BL_LEN
    ∷ field 1  -- WRITE_BL_PARTIAL
    ∷ reserved 5
    ∷ field 1  -- FILE_FORMAT_GRP
    ∷ field 1  -- COPY
    ∷ field 1  -- PERM_WRITE_PROTECT
    ∷ field 1  -- TMP_WRITE_PROTECT
    ∷ field 2  -- FILE_FORMAT
    ∷ reserved 2
    ∷ []

abbrev pub csd : Format
csd = record { size = 16; slots = csd_slots; ending = crc7_from 0 }

abbrev pub csd_values : Csd → List ℕ
csd_values c =
    c.csd_structure
    ∷ c.taac
    ∷ c.nsac
    ∷ c.tran_speed
    ∷ c.ccc
    ∷ c.read_bl_len
    ∷ digit c.read_bl_partial
    ∷ digit c.write_blk_misalign
    ∷ digit c.read_blk_misalign
    ∷ digit c.dsr_imp
    ∷ c.c_size
    ∷ c.vdd_r_curr_min
    ∷ c.vdd_r_curr_max
    ∷ c.vdd_w_curr_min
    ∷ c.vdd_w_curr_max
    ∷ c.c_size_mult
    ∷ digit c.erase_blk_en
    ∷ c.sector_size
    ∷ c.wp_grp_size
    ∷ digit c.wp_grp_enable
    ∷ c.r2w_factor
    ∷ c.write_bl_len
    ∷ digit c.write_bl_partial
    ∷ digit c.file_format_grp
    ∷ digit c.copy
    ∷ digit c.perm_write_protect
    ∷ digit c.tmp_write_protect
    ∷ c.file_format
    ∷ []
