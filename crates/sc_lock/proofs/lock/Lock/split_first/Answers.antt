-- `split_first`: the split of the first seat keeps the invariant, and the keeper's half is the keeper's.
use Rattle.std.proofs.Common.{rules, ap, sym, ◌∙◌, subst, ◌<◌, arith}
use Rattle.sc_lock.specs.Journal.{ArePlacesIn}
use Rattle.sc_lock.specs.Views.{with_weight}
use Rattle.sc_lock.proofs.lock.Lock.split_first.Goals as goal
use Rattle.sc_lock.proofs.PlaceLemmas.{ArePlacesIn-none}
use Rattle.sc_lock.proofs.SeatLemmas.{split_keeps}

pub split_seat-plain-requires : goal.split_seat-plain-requires
split_seat-plain-requires g c =
    let idle = ap (λ m. m.0.stage) c.requires.first in
    (search rules, search rules, split_keeps _ _ _ _ 1 _ idle (search rules))

pub returns-clause-keeper : goal.returns-clause-keeper
returns-clause-keeper g c =
    let split = c.split_seat-plain.ensures in
    let first = c.requires.first in
    let now = split.2 ∙ (λ k. (with_weight 1 (first k).0, (first k).1)) in
    record {
      of_lock = record {
        seat = record {
          of_lock = λ k. ((split.0 ∙ c.requires.lock) k, (now k).0.origin);
          own = subst (λ m. ArePlacesIn m.0.places m.0.seen) (sym now) (ArePlacesIn-none _);
          weighs = subst (λ m. 0 < m.0.weight) (sym now) (omega arith);
        };
        has_part = (g.K.Kept.part c.args.self.now.table.shared.key.value, ap (λ m. m.0.part) now);
      };
      free = (ap (λ m. m.0.stage) now, ap (λ m. m.1) now);
      seen_is = ap (λ m. m.0.seen) now;
      no_places = ap (λ m. m.0.places) now;
      part_is = ap (λ m. m.0.part) now;
    }
