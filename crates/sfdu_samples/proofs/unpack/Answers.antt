-- `sfdu_samples::unpack` meets its contract. Assumes nothing.
use Rattle.std.proofs.Common.{sym, ◌∙◌, arith}
use Rattle.std.proofs.lemmas.Result.{err_from_is_err_and}
use Rattle.octets.specs.Octets.{part}
use Rattle.sfdu_headers.proofs.RsrFound.{Whole, whole, refused-by}
use Rattle.sfdu_samples.proofs.Judged.{refused_as, accepted-as}
use Rattle.sfdu_samples.proofs.unpack.Goals as goal
use Rattle.sfdu_samples.proofs.unpack.Goals.{In_ok-rsr}

-- What the answer of `read_rsr` says of the record.
found : (c : In_ok-rsr) → let rsr = c.in_ok-rsr.rsr in Whole c.args.s.now rsr.size rsr.mission rsr.day_count
found c = whole _ _ _ _ c.in_ok-rsr.ensures

pub returns-in_err-rsr : goal.returns-in_err-rsr
returns-in_err-rsr c =
    let p = err_from_is_err_and c.from_residual.result c.from_residual.ensures.1 in
    rw (p.1, p.2) (sym (refused_as c.args.s.now c.args.list.now _ (refused-by c.args.s.now _ c.in_err-rsr.ensures)))

pub sample_size-bits-requires : goal.sample_size-bits-requires
sample_size-bits-requires c = let w = found (goal.at.sample_size-bits-requires c).In_ok-rsr in omega arith

pub sample_rate-rate-requires : goal.sample_rate-rate-requires
sample_rate-rate-requires c = let w = found (goal.at.sample_rate-rate-requires c).In_ok-rsr in omega arith

pub slice_bounds-unpack_data-count : goal.slice_bounds-unpack_data-count
slice_bounds-unpack_data-count c = let w = found (goal.at.slice_bounds-unpack_data-count c).In_ok-rsr in omega arith

pub slice_bounds-unpack_data-start : goal.slice_bounds-unpack_data-start
slice_bounds-unpack_data-start c = let w = found (goal.at.slice_bounds-unpack_data-start c).In_ok-rsr in omega arith

pub slice_bounds-unpack_data-end : goal.slice_bounds-unpack_data-end
slice_bounds-unpack_data-end c = let w = found (goal.at.slice_bounds-unpack_data-end c).In_ok-rsr in omega arith

pub returns : goal.returns
unfolding part
returns c =
    let w = found (goal.at.returns c).In_ok-rsr in
    let d = c.args in
    c.unpack_data.ensures
    ∙ rw (c.sample_rate-rate.ensures, c.sample_size-bits.ensures, ← w.data_is) (sym (accepted-as d.s.now d.list.now w.headers))
