use Rattle.rest_labels.proofs.Grouped.{tied-in-group}
use Rattle.rest_labels.proofs.laws.rest_is_tied.Goals as goal

pub returns : goal.returns
returns g c = λ labels. tied-in-group (g.W.Labels.labelling labels) (g.W.Labels.close_of labels)
