-- Each of the two cores sits in the other's seat.
use Rattle.std.proofs.Common.{◌≡◌, ◌∙◌, List, swap, get_or, ap}
use Rattle.std.proofs.lemmas.Option.{get_or_from_slice_get}
use Rattle.sc_record.specs.declared.slice.CoreId.{CoreId}
use Rattle.sc_replica.specs.Core.{Core}
use Rattle.sc_replicas.proofs.ExchangeLemmas.{exchanged_is}
use Rattle.sc_replicas.proofs.replicas.Replicas.exchange.Goals as goal

pub returns : goal.returns
returns c one other at_first at_second =
    let name : Core → CoreId = λ core. core.core in
    let one_is : c.index.result.now ≡ one =
    c.index.ensures ∙ ap (λ (cores : List Core). get_or cores c.args.first c.index.result.now) c.self.view_is
    ∙ get_or_from_slice_get c.args.self.now c.args.first one c.index.result.now at_first in
    let other_is : c.index-2.result.now ≡ other =
    c.index-2.ensures ∙ ap (λ (cores : List Core). get_or cores c.args.second c.index-2.result.now) c.self.view_is
    ∙ get_or_from_slice_get c.args.self.now c.args.second other c.index-2.result.now at_second in
    exchanged_is c.args.self.now c.swap.new.self.items c.args.first c.args.second c.core-seat.result c.core-other.result one other
    c.index_mut.result.now c.index_mut-2.result.now c.take_seat.new.self c.take_seat-2.new.self at_first at_second
    (c.swap.ensures.items ∙ ap (λ (cores : List Core). swap cores c.args.first c.args.second) c.self.view_is)
    (c.core-seat.ensures.value ∙ ap name one_is) (c.core-other.ensures.value ∙ ap name other_is)
    c.take_seat.ensures.value c.take_seat-2.ensures.value c.index_mut.ensures.value c.index_mut-2.ensures.value
