use Rattle.std.proofs.Common.{ℤ, ◌∷◌, ◌∙◌, ap, to_z-of_z}
use Rattle.dk_store.specs.Told.{Over}
use Rattle.dk_store.specs.Memory.{mem_events}
use Rattle.dk_store.proofs.Puts.{torn_whole}
use Rattle.dk_store.proofs.memory.MemStoreStore.put_over.Goals as goal

pub returns-in-Some-After-clause-events : goal.returns-in-Some-After-clause-events
returns-in-Some-After-clause-events c =
    torn_whole c.args.path.now c.args.bytes.now c.args.now (mem_events c.args.self.now) _ c.tear.result c.ranges.now c.tear.ensures.fails
    (λ e. (c.tear.ensures.failed e).1 ∙ ap (λ (stamp : ℤ). Over c.args.path.now c.args.bytes.now stamp ∷ mem_events c.args.self.now) (to_z-of_z c.ranges.now))
    c.tear.ensures.memory
