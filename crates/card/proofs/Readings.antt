-- The bench readings hold: one claim about the whole table, by computation.
use mathlib.Core.Path.{refl}
use mathlib.Core.Bool.{xor}
use Rattle.codec.specs.Format.{ended, image, right, decode}
use Rattle.codec.specs.Layout.{width, write, read, fits as Layout·fits, judged}
use Rattle.crc.specs.Altered.{}
use Rattle.crc.specs.Bits.{bits, number, bits_of, bytes}
use Rattle.crc.specs.Crc.{◌⊕◌, shift, turns, run, crc, poly7, poly16, crc7_of, crc16_of}
use Rattle.crc.specs.Detection.{same}
use Rattle.card.specs.Bench.{examples, every, Readings}
use Rattle.card.specs.BenchSpi.{spi_examples}
use Rattle.card.specs.Reading.{bench_world, printed, same_print, plays, shown_by, holds}
use Rattle.card.specs.Checks.{first_failure}
use Rattle.card.specs.Data.{take_source, take_from, write_into, lock_into, block_into, password_into, over_from}
use Rattle.card.specs.Effects.{swept_block, swept, affected}
use Rattle.card.specs.Execute.{send_op_cond, send_op_cond_spi, sd_send_op_cond, settled, erase_start, erase_end, skipped, erase, run_at}
use Rattle.card.specs.Frame.{judge, message_of, cleared}
use Rattle.card.specs.Spi.{r1_byte, r2_byte, behind_r1, unread, start_token}
use Rattle.card.specs.Receive.{shown_sd, show_sd, by_check, receive_sd, show_spi, by_check_spi, receive}
use Rattle.card.specs.Lock.{operation_of, matches, replaces, succeeds, changed}
use Rattle.card.specs.Protect.{mark, guarded, any_guarded, mark_bits}
use Rattle.card.specs.Settings.{allowed, csd_of}
use Rattle.card.specs.Soundness.{equal, bad_rca, any_byte, marked_from, bad_app, unsound_tests, any_of, unsound, bad_password}
use Rattle.card.specs.State.{arrive, number_in}
use Rattle.card.specs.Status.{status}
use Rattle.card.specs.Step.{wire, reply_of, flagged, show, applies, refusal, packet_size, token_size, lone_byte, token_in, incoming, entered, led_message, fresh, start, powered_up, framed, given, taken, overed, step}
use Rattle.card.specs.Table.{row, fits, find, own, command_of, moves, has, lead, legal, accepts, after}
use Rattle.wire_packet.specs.Packet.{packet, payload_of, packet_right, encode_packet, decode_packet}
use Rattle.reg_size.specs.Size.{divides, pair_from, size_pair}
use Rattle.wire_frame.specs.Command.{frame_check, frame_check_by}
use Rattle.wire_response.specs.Status.{short_status}

pub readings : Readings
unfolding printed same_print ended image right decode width write read Layout·fits judged bits number bits_of bytes ◌⊕◌ shift turns run crc poly7 poly16 crc7_of crc16_of same bench_world plays shown_by holds examples spi_examples every first_failure take_source take_from write_into lock_into block_into password_into over_from operation_of matches replaces succeeds changed swept_block swept affected send_op_cond send_op_cond_spi sd_send_op_cond settled erase_start erase_end skipped erase run_at judge message_of cleared r1_byte r2_byte behind_r1 unread start_token shown_sd show_sd by_check receive_sd show_spi by_check_spi receive mark guarded any_guarded mark_bits allowed csd_of equal bad_rca any_byte marked_from bad_app unsound_tests any_of unsound bad_password arrive number_in status wire reply_of flagged show applies refusal packet_size token_size lone_byte token_in incoming entered led_message fresh start powered_up framed given taken overed step row fits find own command_of moves has lead legal accepts after packet payload_of packet_right encode_packet decode_packet divides pair_from size_pair frame_check frame_check_by short_status xor
readings = refl
