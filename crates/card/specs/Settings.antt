-- Settings (01, "The module on the bench"), and the registers that the card gives by them.
use Rattle.std.specs.Prelude.{Bool, true, false, cond, ◌&&◌, List, ◌∷◌, ℕ, ◌+◌, ◌-◌, ◌*◌, ◌/◌, leb, replicate, Option, Some, None}
use Rattle.codec.specs.Layout.{fits}
use Rattle.codec.specs.Format.{image}
use Rattle.reg_cid.specs.Cid.{cid, cid_values}
use Rattle.reg_csd.specs.Csd.{csd, csd_values}
use Rattle.reg_size.specs.Size.{size_pair}
use Rattle.reg_csd.specs.declared.Csd.{Csd}
use Rattle.reg_size.specs.declared.SizePair.{SizePair}
use Rattle.card.specs.declared.Settings.{Settings}

-- the block length of the card, and the blocks of a protection group
abbrev pub BLOCK : ℕ
BLOCK = 512

abbrev pub GROUP : ℕ
GROUP = 32

-- limits of the block count, of the start polls, and of the password's length
abbrev pub LEAST : ℕ
LEAST = 4

abbrev pub MOST : ℕ
MOST = 65536

abbrev pub POLLS : ℕ
POLLS = 15

abbrev pub PASSWORD : ℕ
PASSWORD = 16

-- the first byte address behind the card
abbrev pub capacity : Settings → ℕ
capacity s = s.blocks * BLOCK

-- the byte address that the argument of a command means
abbrev pub address_of : Settings → ℕ → ℕ
address_of s argument = argument

-- how many protection groups; the last may be short
abbrev pub groups : Settings → ℕ
groups s = (s.blocks + (GROUP - 1)) / GROUP

abbrev pub is_pair : Option SizePair → Bool
is_pair (Some pair) = true
is_pair None = false

-- C_SIZE and C_SIZE_MULT
abbrev pub pair_size : Option SizePair → ℕ
pair_size (Some pair) = pair.c_size
pair_size None = 0

abbrev pub pair_mult : Option SizePair → ℕ
pair_mult (Some pair) = pair.c_size_mult
pair_mult None = 0

-- 4 to 65,536 blocks that some pair gives; 0 to 15 polls; CID fields that fit
unfoldable pub allowed : Settings → Bool
allowed s =
    leb LEAST s.blocks
    && (leb s.blocks MOST && (is_pair (size_pair s.blocks) && (leb s.polls POLLS && fits cid.slots (cid_values s.cid))))

-- the CSD that the card gives
unfoldable pub csd_of : Settings → Csd
csd_of s = record {
  csd_structure = 0;
  taac = 0x26;
  nsac = 0;
  tran_speed = 0x32;
  ccc = 0x1F5;
  read_bl_len = 9;
  read_bl_partial = true;
  write_blk_misalign = false;
  read_blk_misalign = false;
  dsr_imp = false;
  c_size = pair_size (size_pair s.blocks);
  vdd_r_curr_min = 0;
  vdd_r_curr_max = 0;
  vdd_w_curr_min = 0;
  vdd_w_curr_max = 0;
  c_size_mult = pair_mult (size_pair s.blocks);
  erase_blk_en = true;
  sector_size = GROUP - 1;
  wp_grp_size = 0;
  wp_grp_enable = true;
  r2w_factor = 0;
  write_bl_len = 9;
  write_bl_partial = false;
  file_format_grp = false;
  copy = false;
  perm_write_protect = s.permanent;
  tmp_write_protect = s.temporary;
  file_format = 0;
}

-- the registers that an R2 carries, with their own check
abbrev pub cid_bytes : Settings → List ℕ
cid_bytes s = image cid (cid_values s.cid)

abbrev pub csd_bytes : Csd → List ℕ
csd_bytes c = image csd (csd_values c)

-- house: version 2.00, one line
abbrev pub scr_bytes : List ℕ
scr_bytes = 0x02 ∷ 0x01 ∷ replicate 6 0

-- OCR: the window, and bit 31 once no polls are left
abbrev pub ocr_of : Bool → ℕ
ocr_of finished = cond finished 0x80FF8000 0x00FF8000
