-- What is taken back stands in its slot.
use Rattle.std.proofs.Common.{None, subst}
use Rattle.sc_collection.specs.Desks.{Held, SeesGiven}
use Rattle.sc_collection.specs.Alone.{seen_alone}
use Rattle.sc_collection.proofs.DeskLemmas.{out_is}
use Rattle.sc_collection.proofs.GiveLemmas.{IsGive, may_stand, put_is_give, one_is_out}
use Rattle.sc_collection.proofs.alone.AloneDesk.give.Goals as goal

pub put_back-requires : goal.put_back-requires
put_back-requires c =
    let out = c.requires.is_out in
    record { is_out = (out.0, out.1, out.2, λ is. may_stand c.args.self.now out.0 c.args.bucket is out.1 out.3) }

pub returns : goal.returns
returns c =
    let out = c.requires.is_out in
    let give : IsGive c.args.self.now c.put_back.new.self out.0 c.args.bucket =
    put_is_give c.args.self.now c.put_back.new.self out.0 c.args.b c.args.bucket c.put_back.ensures.is out.1 out.2 out.3 c.put_back.ensures.after in
    record {
      seen = λ other is_other. subst (λ (held : Held). SeesGiven held c.args.bucket (seen_alone c.args.self.now) (seen_alone c.put_back.new.self))
          (one_is_out c.args.self.now out.0 other out.1 is_other) give.sees;
      out = out_is c.args.self.now c.put_back.new.self None give.out give.board_out;
      legal = give.legal;
      layout = give.layout;
      keepers = λ keepers fits. give.keepers fits;
    }
