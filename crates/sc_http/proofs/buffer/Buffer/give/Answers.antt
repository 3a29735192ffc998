-- The bytes after the first ones are left.
use Rattle.std.proofs.Common.{drop, ◌∙◌, ap}
use Rattle.sc_http.proofs.StreamLemmas.{drop_prefix}
use Rattle.sc_http.proofs.buffer.Buffer.give.Goals as goal

pub returns-else-self : goal.returns-else-self
returns-else-self c =
    drop_prefix c.self.inside.bytes.items c.self.inside.start c.self.inside.filled c.args.count ∙ ap (drop c.args.count) c.self.view_is
