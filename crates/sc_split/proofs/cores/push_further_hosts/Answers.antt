-- The sub that comes next puts its further cores after those of the others.
use Rattle.std.proofs.Common.{◌≡◌, ◌<◌, ◌+◌, List, [], ◌∷◌, ◌++◌, All, take, sym, ap, ◌∙◌, subst}
use Rattle.std.specs.List.{flat_map}
use Rattle.std.proofs.lemmas.List.{take_more, flat_map_more}
use Rattle.std.proofs.lemmas.List.Elements.{All-push}
use Rattle.sc_record.specs.declared.slice.SubSlice.{SubSlice}
use Rattle.sc_io.specs.declared.hosts.Host.{Host}
use Rattle.sc_split.specs.Outside.{further_cores}
use Rattle.sc_split.proofs.cores.push_further_hosts.Goals as goal

pub loop-sub-preserved : goal.loop-sub-preserved
loop-sub-preserved c =
    let first : List SubSlice = take c.loop-sub.sub-index c.args.subs.now in
    let next : take (c.loop-sub.sub-index + 1) c.args.subs.now ≡ first ++ c.sub-item.result ∷ [] =
    take_more c.args.subs.now c.loop-sub.sub-index c.sub-item.result c.loop-sub-test.true
    ∙ ap (λ (sub : SubSlice). first ++ sub ∷ []) (sym c.sub-item.is) in
    record {
      hosts = c.in_ok-push_hosts_of.ensures.hosts
          ∙ ap (λ (hosts : List Host). hosts ++ further_cores c.args.nodes c.sub-item.result) c.loop-sub.invariant.hosts
          ∙ flat_map_more (further_cores c.args.nodes) c.args.hosts.now.items first c.sub-item.result
          ∙ ap (λ (subs : List SubSlice). c.args.hosts.now.items ++ flat_map (further_cores c.args.nodes) subs) (sym next);
      few = subst (All (λ (sub : SubSlice). sub.replicas < 256)) (sym next)
          (All-push (λ (sub : SubSlice). sub.replicas < 256) first c.sub-item.result c.loop-sub.invariant.few c.push_hosts_of.ensures.few);
    }
