-- The definitions give what documents 01 and 02 say, at every figure of the table.
-- Assumes nothing.
use mathlib.Core.Path.{◌≡◌, refl}
use mathlib.Core.List.{map}
use Rattle.bits.specs.Bits.{with_bit, bit_at, bits_at, set_bit, put_bits, be_at, be_bytes}
use Rattle.common.specs.Questions.{outcome}
use Rattle.common.specs.Over.{over}
use Rattle.common.specs.Tests.{every, some, within, pick, all_below}
use Rattle.widths.specs.Widths.{width_taken, width_bytes, table_of, standard, takes}
use Rattle.widths.specs.Loading.{is_entry, entries_fit, header_fits, load}
use Rattle.grid.specs.Sizes.{band_bytes, actual_rows, actual_columns}
use Rattle.grid.specs.Check.{block_side, q1, q3, q4, q6, q11}
use Rattle.grid.specs.Layout.{place, block_end}
use Rattle.layout.specs.Bands.{band_count, band_at, q8, q9}
use Rattle.bits.specs.Values.{values}
use Rattle.common.specs.Lists.{tabulate}
use Rattle.marks.specs.Marks.{marked, mark, count, first_from, q12}
use Rattle.calls.specs.Orders.{q7_window, q10, crosses, block_number, window_number, q13, q14, q26, start_number, write_number, skip_number, progress_number, relay_number}
use Rattle.calls.specs.Reads.{bytes_of, sample_at, picture_at, block_read, window_of, window}
use Rattle.common.specs.Turns.{iter}
use Rattle.calls.specs.Writes.{start, data_at, put_samples, clear_runs, store_by, write, skip, progress, finish}
use Rattle.calls.specs.Relay.{relay_block, relaid_by, relay}
use Rattle.mask.specs.Table.{records, lookup_record, filled_block, table_size, block_record, table_bytes}
use Rattle.mask.specs.Mask.{is_record_length, mask_write_number, to_bytes}
use Rattle.frame.specs.Calls.{step, call_all, started}
use Rattle.frame.specs.PlainFrame.{frame0, as_number, whole_in_data, number_in_data, fit_in_data, in_block, written, reach, frame_write, frame_skip, frame_relay}
use Rattle.frame.specs.PlainFrame.{total, reached_count, frame_progress, unreached_in_row, unreached, frame_finish}
use Rattle.frame.specs.PlainFrame.{frame_step, frame_call_all, as_bytes, each_from, each_of, window_band, frame_bytes}
use Rattle.frame.specs.PlainFrame.{frame_window_by, frame_window}
use Rattle.figures.specs.Instance.{flat, by_calls, by_plain_frame}
use Rattle.figures.specs.Relays.{numbers_of, image_after, by_calls_m, by_plain_frame_m, relay_of}
use Rattle.figures.specs.Loadings.{loaded_with}
use Rattle.figures.specs.Figures.{Figure, figures, corner, read_of, laid, image_with, run_of, write_over, write_on, mask_of, figure_m, list_of_calls, relays, loadings}

pub agree : map (λ (f : Figure). f.found) figures ≡ map (λ (f : Figure). f.paper) figures
unfolding figures figure_m list_of_calls corner image_with laid place band_bytes actual_rows actual_columns put_bits set_bit with_bit read_of block_read block_number bytes_of values be_bytes sample_at bits_at bit_at over tabulate block_side q1 q3 q4 q6 q8 block_end band_count band_at all_below width_taken every some within pick mask_of to_bytes mask_write_number is_record_length records lookup_record filled_block table_size block_record table_bytes run_of write_over write_on start start_number write write_number skip skip_number progress progress_number finish window window_of window_number q7_window q10 crosses picture_at iter q11 q12 q13 q14 q26 data_at put_samples clear_runs store_by marked mark count first_from be_at q9 outcome step call_all started frame0 as_number whole_in_data number_in_data fit_in_data in_block written reach frame_write frame_skip total reached_count frame_progress unreached_in_row unreached frame_finish frame_step frame_call_all as_bytes each_from each_of window_band frame_bytes frame_window_by frame_window flat by_calls by_plain_frame relays relay relay_number relay_block relaid_by frame_relay numbers_of image_after by_calls_m by_plain_frame_m relay_of width_bytes table_of standard takes loadings loaded_with load header_fits entries_fit is_entry
agree = refl
