-- The record's parts, one update for each: antt has no record update, so each is written out once.
use Rattle.std.specs.Prelude.{Bool, true, false, List, ℕ, None, Option, Some}
use Rattle.card.specs.declared.Settings.{Settings}
use Rattle.card.specs.declared.Mode.{Mode}
use Rattle.card.specs.declared.State.{State}
use Rattle.card.specs.declared.Bus.{Bus}
use Rattle.card.specs.declared.EraseMarks.{EraseMarks}
use Rattle.card.specs.declared.Kept.{Kept}
use Rattle.card.specs.declared.Core.{Core}
use Rattle.card.specs.Settings.{csd_of}

abbrev pub with_bus : Core → Bus → Core
with_bus c b = record {
  settings = c.settings;
  csd = c.csd;
  bus = b;
  kept = c.kept;
  erase = c.erase;
  length = c.length;
  written = c.written;
  locked = c.locked;
  marks = c.marks;
}

abbrev pub with_kept : Core → Kept → Core
with_kept c k = record {
  settings = c.settings;
  csd = c.csd;
  bus = c.bus;
  kept = k;
  erase = c.erase;
  length = c.length;
  written = c.written;
  locked = c.locked;
  marks = c.marks;
}

abbrev pub with_erase : Core → EraseMarks → Core
with_erase c e = record {
  settings = c.settings;
  csd = c.csd;
  bus = c.bus;
  kept = c.kept;
  erase = e;
  length = c.length;
  written = c.written;
  locked = c.locked;
  marks = c.marks;
}

abbrev pub with_length : Core → ℕ → Core
with_length c n = record {
  settings = c.settings;
  csd = c.csd;
  bus = c.bus;
  kept = c.kept;
  erase = c.erase;
  length = n;
  written = c.written;
  locked = c.locked;
  marks = c.marks;
}

abbrev pub with_written : Core → ℕ → Core
with_written c n = record {
  settings = c.settings;
  csd = c.csd;
  bus = c.bus;
  kept = c.kept;
  erase = c.erase;
  length = c.length;
  written = n;
  locked = c.locked;
  marks = c.marks;
}

abbrev pub with_marks : Core → List ℕ → Core
with_marks c m = record {
  settings = c.settings;
  csd = c.csd;
  bus = c.bus;
  kept = c.kept;
  erase = c.erase;
  length = c.length;
  written = c.written;
  locked = c.locked;
  marks = m;
}

abbrev pub with_locked : Core → Bool → Core
with_locked c l = record {
  settings = c.settings;
  csd = c.csd;
  bus = c.bus;
  kept = c.kept;
  erase = c.erase;
  length = c.length;
  written = c.written;
  locked = l;
  marks = c.marks;
}

-- the CSD is the settings in the standard's form
abbrev pub with_settings : Core → Settings → Core
with_settings c s = record {
  settings = s;
  csd = csd_of s;
  bus = c.bus;
  kept = c.kept;
  erase = c.erase;
  length = c.length;
  written = c.written;
  locked = c.locked;
  marks = c.marks;
}

abbrev pub with_state : Core → State → Core
with_state c s = with_bus c (record { mode = c.bus.mode; state = s; rca = c.bus.rca; published = c.bus.published; polls = c.bus.polls; app = c.bus.app })

abbrev pub with_app : Core → Bool → Core
with_app c a = with_bus c (record { mode = c.bus.mode; state = c.bus.state; rca = c.bus.rca; published = c.bus.published; polls = c.bus.polls; app = a })

-- the address that command 3 publishes is the card's own from then on
abbrev pub with_rca : Core → ℕ → Core
with_rca c a = with_bus c (record { mode = c.bus.mode; state = c.bus.state; rca = a; published = a; polls = c.bus.polls; app = c.bus.app })

abbrev pub with_polls : Core → ℕ → Core
with_polls c n = with_bus c (record { mode = c.bus.mode; state = c.bus.state; rca = c.bus.rca; published = c.bus.published; polls = n; app = c.bus.app })

abbrev pub with_mode : Core → Mode → Core
with_mode c m = with_bus c (record { mode = m; state = c.bus.state; rca = c.bus.rca; published = c.bus.published; polls = c.bus.polls; app = c.bus.app })

-- ---- erase marks

abbrev pub no_erase : EraseMarks
no_erase = record { first = None; second = None }

abbrev pub is_set : Option ℕ → Bool
is_set None = false
is_set (Some a) = true

-- the address of a mark; 0 where there is none
abbrev pub address : Option ℕ → ℕ
address None = 0
address (Some a) = a
