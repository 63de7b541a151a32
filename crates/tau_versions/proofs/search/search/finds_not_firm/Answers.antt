use Rattle.std.proofs.Common.{List, Bool, sym, subst}
use Rattle.tau_versions.specs.Search.Searching.{is_not_firm, FoundNone}
use Rattle.tau_versions.proofs.search.search.finds_not_firm.Goals as goal

pub finds-requires : goal.finds-requires
finds-requires g c =
    let numbers = g.V.HeardVersions.numbers c.args.heard.now in
    let F : List Bool → Type 0 = FoundNone is_not_firm c.args.logs.now numbers in subst F (sym c.search.view_is) (c.in_ok-search.ensures is_not_firm numbers)
