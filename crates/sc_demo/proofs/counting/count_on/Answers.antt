-- The commits come first, and then the searches.
use Rattle.std.proofs.Common.{◌≡◌, ◌∙◌, ℕ, ap, subst, refl, codes}
use Rattle.sc_seen.specs.Seen.{Layout}
use Rattle.sc_demo.specs.Finding.{CommitsAndFinds, FindsBy}
use Rattle.sc_demo.proofs.counting.count_on.Goals as goal

pub returns-clause-found : goal.returns-clause-found
returns-clause-found g c =
    let one = c.commit.ensures.layout in
    let two = c.found_by.ensures.layout ∙ one in
    let three = c.found_by-2.ensures.layout ∙ two in
    record {
      committed = g.D.Desk.seen c.commit.new.desk;
      commits = c.in_ok-commit.ensures.committed;
      first = g.D.Desk.seen c.found_by.new.desk;
      second = g.D.Desk.seen c.found_by-2.new.desk;
      all = subst (λ (layout : Layout). FindsBy layout (g.D.Desk.seen c.commit.new.desk) (g.D.Desk.seen c.found_by.new.desk) (codes "*:*") c.in_ok-all.all) one c.in_ok-all.ensures.found;
      a = subst (λ (layout : Layout). FindsBy layout (g.D.Desk.seen c.found_by.new.desk) (g.D.Desk.seen c.found_by-2.new.desk) (codes "g_s:a") c.in_ok-a.a) two c.in_ok-a.ensures.found;
      b = subst (λ (layout : Layout). FindsBy layout (g.D.Desk.seen c.found_by-2.new.desk) (g.D.Desk.seen c.found_by-3.new.desk) (codes "g_s:b") c.in_ok-b.b) three c.in_ok-b.ensures.found;
    }
