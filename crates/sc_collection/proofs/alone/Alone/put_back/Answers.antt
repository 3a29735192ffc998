-- What is put back stands in its slot.
use Rattle.std.proofs.Common.{rules}
use Rattle.sc_collection.proofs.GiveLemmas.{out_has_slot, out_has_no_bucket, put_back_of_fields}
use Rattle.sc_collection.proofs.alone.Alone.put_back.Goals as goal

pub index_mut-requires : goal.index_mut-requires
index_mut-requires c =
    let out = c.requires.is_out in
    let slot = out_has_slot c.self.inside c.args.self.now c.args.b out.0 c.self.view_is c.self.invariant out.1 out.2 in
    search (rules, slot)

pub put-requires : goal.put-requires
put-requires c =
    let out = c.requires.is_out in
    out_has_no_bucket c.self.inside c.args.self.now c.args.b out.0 _ c.self.view_is c.self.invariant out.1 out.2 c.index_mut.ensures.value

pub invariant_of-self : goal.invariant_of-self
invariant_of-self c =
    let out = c.requires.is_out in
    (put_back_of_fields c.self.inside _ c.args.self.now c.args.b c.args.bucket out.0 _
    c.self.view_is c.self.invariant out.1 out.2 out.3 c.put.ensures c.new-self-inside.ensures).is_new

pub returns : goal.returns
returns c =
    let out = c.requires.is_out in
    let put =
    put_back_of_fields c.self.inside _ c.args.self.now c.args.b c.args.bucket out.0 _
    c.self.view_is c.self.invariant out.1 out.2 out.3 c.put.ensures c.new-self-inside.ensures in
    record { is = put.is; after = put.after }
