mod RemoteSteps
