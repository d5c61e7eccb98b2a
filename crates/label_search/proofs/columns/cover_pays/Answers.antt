use Rattle.label_search.specs.Laws.{GoodAs}
use Rattle.label_search.proofs.Pricing.{labels-pay}
use Rattle.label_search.proofs.columns.cover_pays.Goals as goal

pub returns : goal.returns
returns g c = λ labels.
    let w = g.W.Labels in
    let m = g.met.W.Labels in
    labels-pay (w.labelling labels) (GoodAs (w.good labels)) (w.value_at labels) (w.close_of labels) (m.kept labels) (m.valued labels)
