-- The lent structs as the records of Store.antt.
use Rattle.std.specs.Prelude.{◌≡◌, length}
use Rattle.store.specs.declared.lent.Input.{Input}
use Rattle.store.specs.declared.lent.Lists as declared
use Rattle.candidate.specs.Store.{Lists, Given, lists, given}

-- what is behind the nine references
abbrev pub lists_of : declared.Lists → Lists
lists_of l =
    lists l.pset.now l.pleft.now l.pright.now l.plead.now l.pkind.now l.prows.now l.pcost.now l.mset.now l.mplan.now

-- the references of b are those of a
pub record SameLists (a b : declared.Lists) : Type 0 where
  pub pset : b.pset.ghost_name ≡ a.pset.ghost_name
  pub pleft : b.pleft.ghost_name ≡ a.pleft.ghost_name
  pub pright : b.pright.ghost_name ≡ a.pright.ghost_name
  pub plead : b.plead.ghost_name ≡ a.plead.ghost_name
  pub pkind : b.pkind.ghost_name ≡ a.pkind.ghost_name
  pub prows : b.prows.ghost_name ≡ a.prows.ghost_name
  pub pcost : b.pcost.ghost_name ≡ a.pcost.ghost_name
  pub mset : b.mset.ghost_name ≡ a.mset.ghost_name
  pub mplan : b.mplan.ghost_name ≡ a.mplan.ghost_name

-- what the search is given beside its limit: all the edges
abbrev pub given_of : Input → Given
given_of i =
    let e = i.edges in
    given (length e.left.now) e.left.now e.right.now e.predicate.now e.source.now i.kinds.now i.selectivities.now i.plan_room i.memo_room
