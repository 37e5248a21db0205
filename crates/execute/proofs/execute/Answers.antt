-- `execute`: the record passed every check, so what is reported and the tables are the outcome's.
use Rattle.rows.proofs.Prelude.{refl, ap, ◌∙◌, List, ℕ, length}
use Rattle.text.proofs.Buffers.{puts_length}
use Rattle.rules.specs.declared.Tables.{Tables}
use Rattle.rows.specs.Rows.{Row}
use Rattle.rules.specs.Record.{Request, received, body}
use Rattle.rules.specs.Outcome.{effect}
use Rattle.rules.specs.Tables.{tables_of}
use Rattle.rules.specs.Defaults.{Defaults}
use Rattle.rules.specs.Promises.Supplied.{supplied}
use Rattle.rules.specs.StoreRange.{store_range_of}
use Rattle.execute.proofs.Laws.{action_is, row_is, rows_pass, form_passes, gives, fills, reply_as, links_as}
use Rattle.execute.proofs.execute.Goals as goal

pub apply-head-requires : goal.apply-head-requires
apply-head-requires c =
    let t : Tables = tables_of c.args.h c.args.creds.now c.args.aces.now in
    let q : Request = received c.args.clock c.args.rec.now (length c.args.reply.now) in
    let d = c.args.d in
    let p = c.requires in
    (action_is t q d p.1 p.2, row_is t q d p.1 p.2, form_passes t q d p.1 p.2 p.0, rows_pass t q d p.1 p.2)

pub returns : goal.returns
returns c =
    let t : Tables = tables_of c.args.h c.args.creds.now c.args.aces.now in
    let q : Request = received c.args.clock c.args.rec.now (length c.args.reply.now) in
    let lists : Defaults = supplied c.args.lists in
    let d = c.args.d in
    let p = c.requires in
    record {
      says = gives t q d p.1 p.2 p.0 lists _ _ _ _ _ _ c.permitted.ensures
          (c.store_range_of-store.ensures ∙ ap (λ (b : List ℕ). store_range_of t b d.action) c.body_of.ensures)
          (c.links_of-links.ensures ∙ links_as t q d p.1 p.2 p.0)
          (c.apply-head.ensures ∙ ap (λ (w : Row). effect lists c.args.clock t w (body q.bytes) d.action) (row_is t q d p.1 p.2));
      fills = fills t q d p.1 p.2 p.0 lists _ _ _ refl (reply_as t q d p.1 p.2) c.put_reply.ensures;
    }

pub shape_of-reply : goal.shape_of-reply
shape_of-reply c = puts_length c.put_reply.ensures
