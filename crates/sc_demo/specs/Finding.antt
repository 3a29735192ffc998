-- What is found on a collection after its makers.
use Rattle.std.specs.Prelude.{◌≡◌, ◌≢◌, ℕ, List, [], ◌∷◌, codes, Option, Some, None, Ok}
use Rattle.sc_eval.specs.Criteria.{criterion_of}
use Rattle.sc_seen.specs.Seen.{Layout, Seen}
use Rattle.sc_seen.specs.Moments.{view_of}
use Rattle.sc_seen.specs.declared.stop.Stop.{Stop}
use Rattle.sc_bucket.specs.declared.commit.CommitFault.{CommitFault}
use Rattle.sc_bucket.specs.declared.commit.CommitFault.TheVariants.{Memory}
use Rattle.sc_collection.specs.Committing.{CommitsAll}
use Rattle.sc_fanout.specs.declared.ask.Ask.{Ask}
use Rattle.sc_fanout.specs.declared.shown.Page.{Page}
use Rattle.sc_fanout.specs.Searches.{SearchesBuckets}
use Rattle.sc_session.specs.Queries.{HaveCriterion}
use Rattle.sc_demo.specs.declared.counting.Found.{Found}

-- a search for a text, without a route, shows that so many documents are found
pub record FindsBy (layout : Layout) (old new : Seen) (text : List ℕ) (count : ℕ) : Type 0 where
  pub ask : Ask
  pub page : Page
  pub query : HaveCriterion (text ∷ []) (criterion_of ask.query)
  pub route : ask.route ≡ None
  pub stops : List Stop
  pub searched : SearchesBuckets layout (view_of old []) (view_of new stops) ask (Ok page)
  pub count_is : page.found ≡ count

-- every bucket was committed in turn, unless its journal had no room for it
pub record AreCommitted (layout : Layout) (old new : Seen) : Type 0 where
  pub stops : List Stop
  pub fault : Option CommitFault
  pub commits : CommitsAll layout layout.buckets (view_of old []) (view_of new stops) fault
  pub memory : fault ≢ Some Memory

-- Every bucket was committed, and then three searches found so many documents.
pub record CommitsAndFinds (layout : Layout) (old new : Seen) (found : Found) : Type 0 where
  pub committed : Seen
  pub commits : AreCommitted layout old committed
  pub first : Seen
  pub second : Seen
  pub all : FindsBy layout committed first (codes "*:*") found.all
  pub a : FindsBy layout first second (codes "g_s:a") found.a
  pub b : FindsBy layout second new (codes "g_s:b") found.b
