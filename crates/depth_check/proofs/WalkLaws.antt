-- A walk over the points of a node, one after another.
use Rattle.std.proofs.Common.{◌≡◌, ◌<◌, List, ◌∷◌, ◌++◌, length, get_or, take, sym, ap, ◌∙◌, arith, length-append}
use Rattle.std.proofs.Math.Seq.{get_or-append_seam, take-append_seam}
use Rattle.depth_cert.specs.declared.points.Point.{Point}

-- the current point comes after those that are done
pub record StandsBehind (points done : List Point) (p : Point) : Type 0 where
  pub within : length done < length points
  pub here : p ≡ get_or points (length done) p
  pub before : take (length done) points ≡ done

pub stands_behind : (points done left : List Point) (p : Point) → points ≡ done ++ (p ∷ left) → StandsBehind points done p
stands_behind points done left p e = record {
  within = omega (arith, ap length e, length-append done (p ∷ left));
  here = sym (ap (λ (l : List Point). get_or l (length done) p) e ∙ get_or-append_seam done p left p);
  before = ap (take (length done)) e ∙ take-append_seam done (p ∷ left);
}
