-- `moves::relay::relay_block` meets its contract: the scratch has the samples as the image had them.
-- Assumes nothing.
use Rattle.std.proofs.Common.{ap, ◌∙◌, ◌*◌, List, ℕ, drop}
use Rattle.moves.specs.Internal.Stores.{put_all, clear_runs}
use Rattle.moves.specs.Internal.Relays.{bits_of, saved}
use Rattle.moves.proofs.SavedRuns.{relayable, saved_rest, saved_sample, put_all_same, sample_by}
use Rattle.moves.proofs.relay.relay_block.Goals as goal

pub put_saved-requires : goal.put_saved-requires
put_saved-requires c =
    rw (c.save_runs.auto.scratch, c.clear_runs.auto.image) (relayable c.args.from c.args.to _ _ c.requires)

pub returns-clause-image_is : goal.returns-clause-image_is
returns-clause-image_is c =
    let a = c.args in
    let t = c.requires in
    c.put_saved.ensures
    ∙ ap (λ (s : List ℕ). put_all a.to (bits_of (saved a.from) s) c.clear_runs.new.image) c.save_runs.ensures
    ∙ ap (put_all a.to (bits_of (saved a.from) _)) c.clear_runs.ensures
    ∙ put_all_same a.to _ (bits_of a.from a.image.now) (clear_runs a.from a.image.now)
    (λ b r k s.
    saved_sample a.from t.sound_from a.image.now a.scratch.now t.runs_held t.saved_held b r k
    (sample_by a.from a.to t.same b r k s))

pub returns-clause-scratch_kept : goal.returns-clause-scratch_kept
returns-clause-scratch_kept c =
    let a = c.args in
    let t = c.requires in
    ap (drop (a.from.bands * a.from.run_bytes)) c.save_runs.ensures
    ∙ saved_rest a.from t.sound_from a.image.now a.scratch.now t.runs_held t.saved_held
