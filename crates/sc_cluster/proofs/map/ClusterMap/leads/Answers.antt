-- The search finds the one slice that leads.
use Rattle.std.proofs.Common.{◌≡◌, ◌∙◌, ap, sym, find, subst, refl}
use Rattle.std.specs.Option.{option_copied}
use Rattle.std.proofs.lemmas.Int.{to_z-of_z}
use Rattle.sc_cluster.specs.declared.slice.Slice.{Slice}
use Rattle.sc_cluster.specs.Map.{IsMap}
use Rattle.sc_cluster.proofs.LeaderLemmas.{is_leader, found_is_some, found_leads, leads_alone, fits_is_within}
use Rattle.sc_cluster.proofs.map.ClusterMap.leads.Goals as goal

pub unwrap-requires : goal.unwrap-requires
unwrap-requires c =
    let fits = c.ranges.h in
    let found : option_copied c.leader_of.result ≡ find (is_leader c.args.h) c.self.inside.slices.items =
    (simp to_z-of_z at c.leader_of.ensures) ∙ ap (find (is_leader c.args.h)) c.deref.ensures.value in
    found_is_some c.self.inside.slices.items c.args.h c.leader_of.result found c.self.invariant (fits_is_within c.args.h fits)

pub returns-clause-leads : goal.returns-clause-leads
returns-clause-leads c =
    let fits = c.ranges.h in
    let found = sym (ap option_copied c.unwrap.ensures) ∙ (simp to_z-of_z at c.leader_of.ensures) ∙ ap (find (is_leader c.args.h)) (c.deref.ensures.value ∙ c.self.view_is) in (
      c.unwrap.result.now,
      found_leads c.args.self.now c.args.h c.unwrap.result.now found (subst IsMap c.self.view_is c.self.invariant) (fits_is_within c.args.h fits),
      refl,
    )

pub returns-clause-alone : goal.returns-clause-alone
returns-clause-alone c =
    let fits = c.ranges.h in
    let is_map : IsMap c.args.self.now = subst IsMap c.self.view_is c.self.invariant in
    let within = fits_is_within c.args.h fits in
    let found = sym (ap option_copied c.unwrap.ensures) ∙ (simp to_z-of_z at c.leader_of.ensures) ∙ ap (find (is_leader c.args.h)) (c.deref.ensures.value ∙ c.self.view_is) in
    let leads = found_leads c.args.self.now c.args.h c.unwrap.result.now found is_map within in
    λ slice other. ap (λ (s : Slice). s.id) (leads_alone c.args.self.now c.args.h slice c.unwrap.result.now is_map within other leads)
