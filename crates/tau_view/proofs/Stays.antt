-- What trimmed facts tell of a point is true by all of them.
use Rattle.tau_view.specs.Held.{Held}
use Rattle.tau_view.specs.Trim.{EdgeTest, RootTest, trim}
use Rattle.tau_view.specs.Stays.{FallenPointsStay, NotFirmPointsStay}
use Rattle.tau_view.proofs.Settled.{past_kept}

module _ (drops_edge : EdgeTest) (drops_root : RootTest) where
  pub fallen_stays : FallenPointsStay (trim drops_edge drops_root)
  fallen_stays v P Q q f s = record { in_past = past_kept drops_edge drops_root v P Q f q s.in_past; is_fallen = s.is_fallen }

  pub not_firm_stays : NotFirmPointsStay (trim drops_edge drops_root)
  not_firm_stays v P Q q f s = record { in_past = past_kept drops_edge drops_root v P Q f q s.in_past; not_firm = s.not_firm }
