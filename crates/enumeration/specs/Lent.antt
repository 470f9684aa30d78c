-- The lent struct as the state of Store.antt, and what holds of them between two calls.
use Rattle.std.specs.Prelude.{◌≡◌, ◌≤◌, length, Some}
use Rattle.memo_index.specs.Index.{Kept}
use Rattle.enumeration.specs.declared.Bounds.{Bounds}
use Rattle.enumeration.specs.declared.Entry.{Entry}
use Rattle.enumeration.specs.declared.OpenLists.{OpenLists}
use Rattle.enumeration.specs.Store.{Store, lists, store, spot_of}

-- what is behind four of the references, and the counts
abbrev pub store_of : OpenLists → Store
store_of l = store (lists l.pleft.now l.pright.now l.plead.now l.mset.now) l.counts

-- the references of b are those of a
pub record SameLists (a b : OpenLists) : Type 0 where
  pub pleft : b.pleft.ghost_name ≡ a.pleft.ghost_name
  pub pright : b.pright.ghost_name ≡ a.pright.ghost_name
  pub plead : b.plead.ghost_name ≡ a.plead.ghost_name
  pub mset : b.mset.ghost_name ≡ a.mset.ghost_name
  pub index : b.index.ghost_name ≡ a.index.ghost_name

-- the index is that of the memo's sets, and their list has the room that the search may fill
pub record Indexed (b : Bounds) (l : OpenLists) : Type 0 where
  pub kept : Kept l.index.now l.mset.now l.counts.memo
  pub sized : length l.index.now ≡ 1024
  pub room : b.memo_room ≤ length l.mset.now

-- and e is one of the memo's entries
pub record Ready (b : Bounds) (l : OpenLists) (e : Entry) : Type 0 where
  pub index : Indexed b l
  pub entry : spot_of (store_of l) e.set ≡ Some e.position
