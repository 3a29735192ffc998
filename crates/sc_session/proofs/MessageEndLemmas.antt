-- What a reader reports of the end of a connection's bytes.
use Rattle.std.proofs.Common.{◌≡◌, ℕ, List, ◌++◌, Option, Some, None, refl}
use Rattle.std.specs.Prelude.{IfSome}
use Rattle.sc_http.specs.declared.end.MessageEnd.{MessageEnd}
use Rattle.sc_http.specs.declared.end.MessageEnd.TheVariants as reads
use Rattle.sc_http.specs.Ends.{ending_of}
use Rattle.sc_http.specs.Stream.{HasNoMessageBefore}
use Rattle.sc_session.specs.Connection.{EndsWith}
use Rattle.sc_model.specs.Messages.{EndsSo}
use Rattle.sc_session.specs.Ends.{last_without_request}
use Rattle.sc_session.proofs.EndLemmas.{IsPlain}

-- what holds of some bytes holds whatever comes after them
nested : (P : List ℕ → Type 0) (unread then_unread : Option (List ℕ)) → IfSome unread P → IfSome unread (λ bytes. IfSome then_unread (λ more. P bytes))
nested P None then_unread h = tt
nested P (Some bytes) None h = tt
nested P (Some bytes) (Some more) h = h

pub nothing_reported : (unread then_unread : Option (List ℕ)) → IfSome unread (λ bytes. IfSome then_unread (λ more. Unit {0}))
nothing_reported None then_unread = tt
nothing_reported (Some bytes) None = tt
nothing_reported (Some bytes) (Some more) = tt

pub last_without_request-plain : (end : MessageEnd) → IsPlain (last_without_request end)
last_without_request-plain reads.Done = tt
last_without_request-plain reads.Cut = tt
last_without_request-plain reads.BadHead = tt
last_without_request-plain reads.TooLarge = tt
last_without_request-plain reads.ReadFault = tt
last_without_request-plain reads.Memory = tt

-- the bytes end as the reader reports
pub ends_as_reported : (end : MessageEnd) (held : List ℕ) (unread then_unread : Option (List ℕ))
    → IfSome (ending_of end) (λ ending. IfSome unread (λ bytes. EndsSo (held ++ bytes) ending))
    → (end ≡ reads.ReadFault → IfSome unread (λ bytes. IfSome then_unread (λ more. HasNoMessageBefore more (held ++ bytes))))
    → IfSome unread (λ bytes. IfSome then_unread (λ more. EndsWith (held ++ bytes) (last_without_request end) more))
ends_as_reported reads.Done held unread then_unread ends unfinished = nested _ unread then_unread ends
ends_as_reported reads.Cut held unread then_unread ends unfinished = nested _ unread then_unread ends
ends_as_reported reads.BadHead held unread then_unread ends unfinished = nested _ unread then_unread ends
ends_as_reported reads.TooLarge held unread then_unread ends unfinished = nested _ unread then_unread ends
ends_as_reported reads.ReadFault held unread then_unread ends unfinished = unfinished refl
ends_as_reported reads.Memory held unread then_unread ends unfinished = nothing_reported unread then_unread
