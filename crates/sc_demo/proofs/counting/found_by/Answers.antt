-- The search's trail begins empty.
use Rattle.std.proofs.Common.{◌≡◌, ℕ, length, ap, arith, subst, refl, [], List, Ok}
use Rattle.sc_collection.specs.Kept.{Kept}
use Rattle.sc_seen.specs.Moments.{view_of}
use Rattle.sc_fanout.specs.declared.ask.Ask.{Ask}
use Rattle.sc_fanout.specs.Searches.{SearchesBuckets}
use Rattle.std.specs.Prelude.{None}
use Rattle.sc_demo.proofs.counting.found_by.Goals as goal

pub search-requires-clause-room : goal.search-requires-clause-room
search-requires-clause-room g c κs within =
    let none : length c.clear.new.self.stops ≡ 0 = ap (λ (kept : Kept). length kept.stops) c.clear.ensures in
    omega (arith, none, c.requires.buckets)

pub returns-clause-found : goal.returns-clause-found
returns-clause-found g c =
    let ask : Ask = record { query = c.in_ok-bound.field-0; route = None; start = 0; rows = 0 } in
    record {
      ask = ask;
      page = c.in_ok-page.page;
      query = c.in_ok-bound.ensures;
      route = refl;
      stops = c.search.new.trail.stops;
      searched = subst (λ (kept : Kept). SearchesBuckets (g.D.Desk.layout c.args.desk.now) (view_of (g.D.Desk.seen c.args.desk.now) kept.stops)
          (view_of (g.D.Desk.seen c.search.new.desk) c.search.new.trail.stops) ask (Ok c.in_ok-page.page)) c.clear.ensures c.in_ok-page.ensures.searched;
      count_is = refl;
    }
