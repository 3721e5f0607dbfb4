-- The laws of specs/Laws.antt.
use Rattle.replay_read.specs.Laws.{ReadLaws, KeepLaws}
use Rattle.replay_read.proofs.RoundTrip.{frame-read, block_read}
use Rattle.replay_read.proofs.Longest.{front_enough}
use Rattle.replay_read.proofs.Held.{held_whole}
use Rattle.replay_read.proofs.Collecting.{one_kept, all-kept, kept_read, kept-size}

pub read_laws : ReadLaws
read_laws = record { frame = frame-read; block = block_read; front = front_enough; whole = held_whole }

pub keep_laws : KeepLaws
keep_laws = record { one = one_kept; all = all-kept; read = kept_read; size = kept-size }
