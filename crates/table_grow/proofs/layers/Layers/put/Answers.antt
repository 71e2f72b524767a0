use Rattle.table_grow.proofs.Layering.{put-list}
use Rattle.table_grow.proofs.layers.Layers.put.Goals as goal

pub returns : goal.returns
returns c =
    put-list (λ v. v.items) c.self.inside.lists.items c.args.height c.push.new.self c.index_mut.result.now c.args.id c.args.self.now c.self.view_is c.requires
    c.index_mut.ensures.value c.in_ok-push.ensures.items
