-- What was seen before an exchange is seen once its gate was passed, and after those that come after it.
use Rattle.std.proofs.Common.{List, [], ◌∷◌, sym, subst}
use Rattle.sc_seen.specs.Seen.{Layout, Seen, SeesMore}
use Rattle.sc_seen.proofs.GoesOnLemmas.{SeesMore-self, SeesMore-then, SeesMore-by}
use Rattle.sc_gate.proofs.GateLemmas.{SeesOnly-more}
use Rattle.sc_session.specs.Connection.{Exchange, IsExchange, AreExchanges}

pub exchange_sees : (layout : Layout) (old : Seen) (x : Exchange) → IsExchange layout old x → SeesMore old x.passed
exchange_sees layout old x is =
    SeesMore-then old x.seen x.passed (SeesMore-by layout old x.seen x.trace.stops is.extends) (SeesOnly-more x.seen x.passed is.met)

-- what was seen before exchanges is seen after them
pub sees_more : (layout : Layout) (old : Seen) (exchanges : List Exchange) (new : Seen) → AreExchanges layout old exchanges new → SeesMore old new
sees_more layout old [] new are = subst (SeesMore old) (sym are) (SeesMore-self old)
sees_more layout old (x ∷ exchanges) new are =
    SeesMore-then old x.passed new (exchange_sees layout old x are.0) (sees_more layout x.passed exchanges new are.1)

-- what was seen as an exchange was answered is seen after those that come after it
pub sees_on : (layout : Layout) (old : Seen) (x : Exchange) (exchanges : List Exchange) (new : Seen) → IsExchange layout old x
    → AreExchanges layout x.passed exchanges new → SeesMore x.seen new
sees_on layout old x exchanges new is are =
    SeesMore-then x.seen x.passed new (SeesOnly-more x.seen x.passed is.met) (sees_more layout x.passed exchanges new are)
