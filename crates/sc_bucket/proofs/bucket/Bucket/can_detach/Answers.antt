-- A follower of an active slice can be marked as down where it is not, and no other core can.
use Rattle.std.proofs.Common.{◌≡◌, ◌∙◌, true, false, sym}
use Rattle.sc_bucket.proofs.DownLemmas.{can_detach_where, detached_is, cannot_detach}
use Rattle.sc_bucket.proofs.bucket.Bucket.can_detach.Goals as goal

pub returns-then-may_be_down : goal.returns-then-may_be_down
returns-then-may_be_down c =
    let (active, least, most) = c.may_be_down.ensures.0 c.if-may_be_down.true in
    let (inside, named) = c.in-Some.ensures.slice in
    can_detach_where c.args.self.now c.args.core c.in-Some.slice.now c.is_down.result c.requires inside named active least most
    c.is_down.ensures

pub returns-else-may_be_down : goal.returns-else-may_be_down
returns-else-may_be_down c =
    let (inside, named) = c.in-Some.ensures.slice in (
      λ is. let no : true ≡ false = sym is ∙ c.if-may_be_down.false in absurd (cc),
      λ can. c.may_be_down.ensures.1 (detached_is c.args.self.now c.args.core c.in-Some.slice.now c.requires inside named can),
    )

pub returns-in-None : goal.returns-in-None
returns-in-None c = (
  λ is. let no : false ≡ true = is in absurd (cc),
  λ can. absurd (cannot_detach c.args.self.now c.args.core c.in-None.ensures.slice can),
)
