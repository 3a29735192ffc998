-- What a worker makes of its links: of none, of one, and of some and then of others.
use Rattle.std.proofs.Common.{◌≡◌, ℕ, ◌+◌, ◌<◌, ◌≤◌, List, [], ◌∷◌, ◌++◌, length, Option, Some, None, refl, sym, ap, ◌∙◌, subst, arith, append_assoc, length-append}
use Rattle.std.specs.Prelude.{map, IfSome}
use Rattle.std.proofs.lemmas.List.{append-nil, map-append}
use Rattle.std.proofs.lemmas.Grind.{flat_map-append}
use Rattle.sc_cores.specs.Cores.{Outside}
use Rattle.sc_seen.specs.Seen.{Layout, Seen, Extends}
use Rattle.sc_seen.specs.declared.stop.Stop.{Stop}
use Rattle.sc_seen.proofs.ExtendsLemmas.{Extends-none, Extends-then}
use Rattle.sc_collection.specs.Kept.{Kept}
use Rattle.sc_gate.specs.Gates.{Gated}
use Rattle.sc_session.specs.Listening.{GivesFirst, nothing_kept}
use Rattle.sc_session.specs.Served.{IsServed}
use Rattle.sc_session.specs.Working.{LinkSetting, Surroundings, ServedLink, WorkState, HasWorkEnd, IsWorked, IsLinkServed, AreServed, over_link, stops_of_links}
use Rattle.sc_session.specs.declared.listener.Link.{Link}
use Rattle.sc_session.specs.declared.listener.Taken.{Taken}
use Rattle.sc_session.specs.declared.worker.WorkEnd.{WorkEnd}
use Rattle.sc_session.specs.declared.worker.WorkEnd.TheVariants as ends

-- what stands beside a worker, by these
abbrev pub work_state : {C S W : Type 0} → Seen → C → Outside → Gated → Option (List (Link S W)) → Option (List (Taken S W)) → (faults out : ℕ) → WorkState C S W
work_state seen clock outside gate coming taken faults out = record {
  around = record { seen = seen; clock = clock; outside = outside; gate = gate };
  coming = coming;
  taken = taken;
  faults = faults;
  out = out;
}

-- the setting of a worker, by these
abbrev pub setting : {S W : Type 0} → Layout → (S → Option (List ℕ)) → (S → ℕ) → (W → Option (List ℕ)) → (W → ℕ) → LinkSetting S W
setting layout rest read_faults written write_faults = record {
  layout = layout;
  rest = rest;
  read_faults = read_faults;
  written = written;
  write_faults = write_faults;
}

-- of the links to come these were given, and those after them are to come then
abbrev pub GivesFront : {A : Type 0} → (old new : Option (List A)) → List A → Type 0
GivesFront {A} old new given = IfSome old (λ all. (more : List A) × (all ≡ given ++ more) × (new ≡ Some more))

-- these were taken back after those that were
abbrev pub TakesBack : {A : Type 0} → (old new : Option (List A)) → List A → Type 0
TakesBack old new taken = IfSome old (λ before. new ≡ Some (before ++ taken))

gives_none : {A : Type 0} (old new : Option (List A)) → IfSome old (λ all. new ≡ Some all) → GivesFront old new []
gives_none None new same = tt
gives_none (Some all) new same = (all, refl, same)

takes_none : {A : Type 0} (old new : Option (List A)) → new ≡ old → TakesBack old new []
takes_none None new same = tt
takes_none (Some all) new same = same ∙ ap Some (sym (append-nil all))

gives_then : {A : Type 0} (old between new : Option (List A)) (xs ys all : List A) → all ≡ xs ++ ys
    → GivesFront old between xs → GivesFront between new ys → GivesFront old new all
gives_then None between new xs ys all is one two = tt
gives_then {A} (Some links) between new xs ys all is one two =
    let rest : GivesFront (Some one.0) new ys = subst (λ (o : Option (List A)). GivesFront o new ys) one.2 two in (
      rest.0,
      one.1 ∙ ap (λ (more : List A). xs ++ more) rest.1 ∙ sym (append_assoc xs ys rest.0) ∙ ap (λ (given : List A). given ++ rest.0) (sym is),
      rest.2,
    )

takes_then : {A : Type 0} (old between new : Option (List A)) (xs ys all : List A) → all ≡ xs ++ ys
    → TakesBack old between xs → TakesBack between new ys → TakesBack old new all
takes_then None between new xs ys all is one two = tt
takes_then {A} (Some links) between new xs ys all is one two =
    let then : TakesBack (Some (links ++ xs)) new ys = subst (λ (o : Option (List A)). TakesBack o new ys) one two in
    then ∙ ap Some (append_assoc links xs ys ∙ ap (λ (taken : List A). links ++ taken) (sym is))

-- where none is to come after some were given, none is to come
none_after : {A : Type 0} (old between new : Option (List A)) (xs : List A) → GivesFront old between xs
    → IfSome between (λ all. new ≡ Some []) → IfSome old (λ all. new ≡ Some [])
none_after None between new xs one two = tt
none_after {A} (Some links) between new xs one two = subst (λ (o : Option (List A)). IfSome o (λ all. new ≡ Some [])) one.2 two

served_then : {C S W : Type 0} (gives : C → ℕ → C → Type 0) (told : LinkSetting S W) (before between after : Surroundings C) (xs ys : List (ServedLink C S W))
    → AreServed gives told before xs between → AreServed gives told between ys after → AreServed gives told before (xs ++ ys) after
served_then {C} gives told before between after [] ys one two =
    subst (λ (around : Surroundings C). AreServed gives told around ys after) one two
served_then gives told before between after (x ∷ xs) ys one two =
    (one.0, served_then gives told x.after between after xs ys one.1 two)

-- where nothing was given, nothing was to come, and so it is then
pub comes_none : {A : Type 0} (old new : Option (List A)) → IfSome old (λ all. GivesFirst None all new)
    → IfSome old (λ all. new ≡ Some all) × IfSome old (λ all. new ≡ Some [])
comes_none None new given = (tt, tt)
comes_none (Some all) new given = (given.1 ∙ ap Some (sym given.0), given.1)

-- what is to come is as it was
pub comes_same : {A : Type 0} (old new : Option (List A)) → new ≡ old → IfSome old (λ all. new ≡ Some all)
comes_same None new same = tt
comes_same (Some all) new same = same

-- no link was given
pub worked_none : {C S W : Type 0} (gives : C → ℕ → C → Type 0) (told : LinkSetting S W) (most : ℕ) (before after : WorkState C S W) (end : WorkEnd)
    → after.around ≡ before.around → IfSome before.coming (λ all. after.coming ≡ Some all) → after.taken ≡ before.taken
    → after.out ≡ before.out → HasWorkEnd most 0 before after end → IsWorked gives told most before after end
worked_none {C} gives told most before after end around coming taken out has = record {
  links = [];
  each = around;
  journals = subst (λ (one : Surroundings C). Extends told.layout before.around.seen one.seen []) (sym around)
      (Extends-none told.layout before.around.seen);
  given = gives_none before.coming after.coming coming;
  taken_back = takes_none before.taken after.taken taken;
  none_out = out;
  end_is = has;
}

-- the stops of a link's connection are those by which what was seen went on
link_extends : {C S W : Type 0} (gives : C → ℕ → C → Type 0) (told : LinkSetting S W) (before : Surroundings C) (x : ServedLink C S W)
    → IsLinkServed gives told before x → Extends told.layout before.seen x.after.seen (stops_of_links (x ∷ []))
link_extends gives told before x served =
    subst (λ (stops : List Stop). Extends told.layout before.seen x.after.seen stops)
    (sym served.traces.stops ∙ sym (append-nil x.taken.trail.stops)) served.traces.journals

-- a link that was served from a trail on that is empty
pub served_from : {C S W : Type 0} (gives : C → ℕ → C → Type 0) (told : LinkSetting S W) (before : Surroundings C) (x : ServedLink C S W) (kept : Kept)
    → kept ≡ nothing_kept → IsServed gives told.layout (over_link told before (record { link = x.given; trail = kept })) (over_link told x.after x.taken) x.end
    → IsLinkServed gives told before x
served_from gives told before x kept is served =
    subst (λ (k : Kept). IsServed gives told.layout (over_link told before (record { link = x.given; trail = k })) (over_link told x.after x.taken) x.end) is served

-- one link was given, served and taken back
pub worked_one : {C S W : Type 0} (gives : C → ℕ → C → Type 0) (told : LinkSetting S W) (before after : WorkState C S W) (x : ServedLink C S W)
    → IsLinkServed gives told before.around x → after.around ≡ x.after
    → IfSome before.coming (λ all. GivesFirst (Some x.given) all after.coming) → TakesBack before.taken after.taken (x.taken ∷ [])
    → after.out ≡ before.out → after.faults ≡ before.faults
    → IsWorked gives told 1 before after ends.Enough
worked_one {C} gives told before after x served around coming taken out faults = record {
  links = x ∷ [];
  each = (served, around);
  journals = subst (λ (one : Surroundings C). Extends told.layout before.around.seen one.seen (stops_of_links (x ∷ []))) (sym around)
      (link_extends gives told before.around x served);
  given = coming;
  taken_back = taken;
  none_out = out;
  end_is = record {
    enough = (λ is. refl, λ is. refl);
    at_most = omega arith;
    no_more = λ is. absurd (cc);
    faults = record { rises = λ is. absurd (cc); stays = λ not. faults };
  };
}

-- so many links were served, and then one more, or there came none
pub worked_then : {C S W : Type 0} (gives : C → ℕ → C → Type 0) (told : LinkSetting S W) (count most : ℕ) (before now then : WorkState C S W) (end : WorkEnd)
    → count < most → (end ≡ ends.Enough → most ≡ count + 1)
    → IsWorked gives told count before now ends.Enough → IsWorked gives told 1 now then end
    → IsWorked gives told most before then end
worked_then {C} {S} {W} gives told count most before now then end more last one two =
    record {
      links = one.links ++ two.links;
      each = served_then gives told before.around now.around then.around one.links two.links one.each two.each;
      journals = subst (λ (stops : List Stop). Extends told.layout before.around.seen then.around.seen stops)
          (sym (flat_map-append (λ (x : ServedLink C S W). x.taken.trail.stops) one.links two.links))
          (Extends-then told.layout before.around.seen now.around.seen then.around.seen (stops_of_links one.links) (stops_of_links two.links) one.journals two.journals);
      given = gives_then before.coming now.coming then.coming (map given one.links) (map given two.links) (map given (one.links ++ two.links))
          (map-append given one.links two.links) one.given two.given;
      taken_back = takes_then before.taken now.taken then.taken (map taken one.links) (map taken two.links) (map taken (one.links ++ two.links))
          (map-append taken one.links two.links) one.taken_back two.taken_back;
      none_out = two.none_out ∙ one.none_out;
      end_is = record {
        enough = (λ is. full is, λ is. two.end_is.enough.1 (whole is));
        at_most = let first = counted in let second : length two.links ≤ 1 = two.end_is.at_most in omega (arith, length-append one.links two.links);
        no_more = λ is. none_after before.coming now.coming then.coming (map given one.links) one.given (two.end_is.no_more is);
        faults = record {
          rises = λ fault. subst (λ (n : ℕ). n < then.faults) steady (two.end_is.faults.rises fault);
          stays = λ not. two.end_is.faults.stays not ∙ steady;
        };
      };
    }
  where
    given : ServedLink C S W → Link S W
    given x = x.given

    taken : ServedLink C S W → Taken S W
    taken x = x.taken

    counted : length one.links ≡ count
    counted = one.end_is.enough.0 refl

    steady : now.faults ≡ before.faults
    steady = one.end_is.faults.stays (λ fault. let same : ends.Enough ≡ ends.ListenerFault = fault in absurd (cc))

    full : end ≡ ends.Enough → length (one.links ++ two.links) ≡ most
    full is =
        let first = counted in
        let second : length two.links ≡ 1 = two.end_is.enough.0 is in
        let all : most ≡ count + 1 = last is in
        omega (arith, length-append one.links two.links)

    whole : length (one.links ++ two.links) ≡ most → length two.links ≡ 1
    whole is =
        let first = counted in
        let second : length two.links ≤ 1 = two.end_is.at_most in
        omega (arith, length-append one.links two.links)
