-- One more slice.
use Rattle.std.proofs.Common.{[], ◌∷◌, ◌-◌, ◌≡◌, None, sym, ap, ◌∙◌, arith}
use Rattle.std.specs.List.{slice_get}
use Rattle.std.specs.Option.{option_copied}
use Rattle.sc_json.specs.Documents.{put_all}
use Rattle.sc_admin.specs.Status.{slice_member}
use Rattle.sc_admin.proofs.PutLemmas.{put-slice, not_past}
use Rattle.sc_admin.proofs.status.shards_value.Goals as goal

pub loop-left-preserved : goal.loop-left-preserved
loop-left-preserved c =
    let none : slice_get c.args.map.now (c.loop-left.left - 1) ≡ None = sym c.get.ensures.slice ∙ ap option_copied c.in_default.is in
    absurd (not_past c.args.map.now (c.loop-left.left - 1) (omega arith) none)

pub loop-left-preserved-in-Continue-1 : goal.loop-left-preserved-in-Continue-1
loop-left-preserved-in-Continue-1 c = record {
  within = omega arith;
  put = c.in_ok-put_slice.ensures
      ∙ ap (put_all (slice_member c.args.nodes c.in-Some.slice.now ∷ [])) c.loop-left.invariant.put
      ∙ put-slice c.args.nodes c.args.map.now c.loop-left.left c.in-Some.slice.now (omega arith) (omega arith) (sym c.in-Some.ensures.slice);
}
