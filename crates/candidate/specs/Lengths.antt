-- Lists of the same lengths. Assumes nothing.
use Rattle.std.specs.Prelude.{◌≡◌, refl, length}
use Rattle.std.proofs.Common.{◌∙◌}
use Rattle.candidate.specs.Store.{Lists}

pub record SameLengths (a b : Lists) : Type 0 where
  pub pset : length a.pset ≡ length b.pset
  pub pleft : length a.pleft ≡ length b.pleft
  pub pright : length a.pright ≡ length b.pright
  pub plead : length a.plead ≡ length b.plead
  pub pkind : length a.pkind ≡ length b.pkind
  pub prows : length a.prows ≡ length b.prows
  pub pcost : length a.pcost ≡ length b.pcost
  pub mset : length a.mset ≡ length b.mset
  pub mplan : length a.mplan ≡ length b.mplan

pub lengths_trans : {a b c : Lists} → SameLengths a b → SameLengths b c → SameLengths a c
lengths_trans x y = record {
  pset = x.pset ∙ y.pset;
  pleft = x.pleft ∙ y.pleft;
  pright = x.pright ∙ y.pright;
  plead = x.plead ∙ y.plead;
  pkind = x.pkind ∙ y.pkind;
  prows = x.prows ∙ y.prows;
  pcost = x.pcost ∙ y.pcost;
  mset = x.mset ∙ y.mset;
  mplan = x.mplan ∙ y.mplan;
}

pub lengths_refl : {a : Lists} → SameLengths a a
lengths_refl = record { pset = refl; pleft = refl; pright = refl; plead = refl; pkind = refl; prows = refl; pcost = refl; mset = refl; mplan = refl }
