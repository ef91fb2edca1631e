-- That a chain keeps its rules is a fact with one proof at most.
use Rattle.std.specs.Prelude.{ℕ, zero, suc, List}
use Rattle.std.proofs.Props.{props}
use Rattle.table.specs.declared.Record.{Record}
use Rattle.table.specs.Chains.{Chained, at}

pub Chained-prop : (t : List Record) (lo hi n i : ℕ) → IsProp (Chained t lo hi n i)
Chained-prop t lo hi zero i = Prim.hlevel props
Chained-prop t lo hi (suc n) i =
    let rest = Chained-prop t lo hi n (at t i).next in Prim.hlevel (props, rest)
