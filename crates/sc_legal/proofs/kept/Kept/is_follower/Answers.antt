-- The slice that is found is the one of the core.
use Rattle.sc_legal.proofs.FoundLemmas.{follower_where_found, no_follower}
use Rattle.sc_legal.proofs.kept.Kept.is_follower.Goals as goal

pub returns-in-Some : goal.returns-in-Some
returns-in-Some c =
    follower_where_found c.args.self.now.map c.args.core c.in-Some.slice.now c.follows.result c.by_id.ensures.map c.in-Some.ensures.slice
    c.follows.ensures

pub returns-in-None : goal.returns-in-None
returns-in-None c = no_follower c.args.self.now.map c.args.core c.in-None.ensures.slice
